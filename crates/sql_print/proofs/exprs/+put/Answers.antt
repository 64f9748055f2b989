use Rattle.std.proofs.Common.{◌≡◌, ◌∙◌, ℕ, List, [], ◌++◌, ap, sym, arith}
use Rattle.std.specs.Prelude.{codes}
use Rattle.tree_meaning.specs.Tree.{exs, arms, bin, is, member, between, matching, choice, cast, call, trunc, extract, shift, agg}
use Rattle.query_meaning.specs.Words.{mark_text, function_text, part_text, cast_text}
use Rattle.query_tree.specs.View.{arm_view}
use Rattle.print_meaning.specs.Pieces.{in_quotes}
use Rattle.print_meaning.specs.Print.{op_mark, what_mark, func_word, agg_word}
use Rattle.print_meaning.specs.Texts.{text, list_text, arms_text, between_text}
use Rattle.print_meaning.proofs.PrintedTexts.{bin_text, is_text, member_text, between_three, case_text, cast_call_text, call_text, trunc_text, extract_text, shift_text, agg_text}
use Rattle.print_meaning.proofs.PrintedLists.{joins_one, joins_all, lists_one, lists_all, list_is, arms_are, arm_text}
use Rattle.sql_print.specs.Matches.{before}
use Rattle.sql_print.specs.Matches.{between as between_of}
use Rattle.sql_print.proofs.MatchTexts.{matching_text}
use Rattle.sql_print.proofs.Grown.{by_two, by_three, by_four}
use Rattle.sql_print.proofs.Members.{expr_smaller, arm_smaller, expr_formed, arm_formed}
use Rattle.sql_print.proofs.exprs.+put.Goals as goal

pub put_agg-returns : goal.put_agg-returns
put_agg-returns t c =
    let old = c.args.text.now in
    let inner = text c.args.row.now c.args.of.now in
    let name = function_text (agg_word c.args.name) in
    let first : c.put.new.text ≡ old ++ name = c.in_ok-put.ensures ∙ ap (λ (z : List ℕ). old ++ z) c.agg_name.ensures in
    let e = by_two old c.put.new.text name (codes "(" ++ (inner ++ codes ")")) (text c.args.row.now (agg c.args.name c.args.of.now)) first (agg_text c.args.row.now c.args.name c.args.of.now) in
    rw (← e) c.put_within.ensures

pub put_bin-returns : goal.put_bin-returns
put_bin-returns t c =
    let old = c.args.text.now in
    let row = c.args.row.now in
    let op = c.args.op in
    let left = text row c.args.left.now in
    let first : c.put_within.new.text ≡ old ++ (codes "(" ++ (left ++ between_text (op_mark op))) = c.in_ok-put_within.ensures ∙ ap (λ (z : List ℕ). old ++ (codes "(" ++ (left ++ z))) c.op_words.ensures in
    let e = by_two old c.put_within.new.text (codes "(" ++ (left ++ between_text (op_mark op))) ([] ++ (text row c.args.right.now ++ codes ")")) (text row (bin op c.args.left.now c.args.right.now)) first (bin_text row op c.args.left.now c.args.right.now) in
    rw (← e) c.put_within-2.ensures

pub put_exprs-put_listed-requires : goal.put_exprs-put_listed-requires
put_exprs-put_listed-requires t c =
    let smaller = expr_smaller c.args.list.now c.loop-at.at c.expr_at.result.now c.expr_at.ensures in
    (omega (arith, smaller, c.requires.1.0), expr_formed c.args.list.now c.loop-at.at c.expr_at.result.now c.requires.1.1 c.expr_at.ensures)

pub put_exprs-loop-at-preserved : goal.put_exprs-loop-at-preserved
put_exprs-loop-at-preserved t c =
    lists_one (text c.args.row.now) c.args.text.now c.loop-at.text c.put_listed.new.text c.loop-at.at c.args.list.now c.expr_at.result.now c.expr_at.ensures c.in_ok-put_listed.ensures c.loop-at.invariant

pub put_exprs-returns : goal.put_exprs-returns
put_exprs-returns t c =
    lists_all (text c.args.row.now) c.args.text.now c.loop-at.text c.loop-at.at c.args.list.now (omega (arith, c.loop-at-test.false, c.len-at-end.ensures)) c.loop-at.invariant
    ∙ ap (λ (z : List ℕ). c.args.text.now ++ z) (sym (list_is c.args.row.now c.args.list.now))

pub put_arms-put_arm-requires : goal.put_arms-put_arm-requires
put_arms-put_arm-requires t c =
    let smaller = arm_smaller c.args.list.now c.loop-at.at (arm_view c.arm_at.result.now) c.arm_at.ensures in
    (omega (arith, smaller, c.requires.1.0), arm_formed c.args.list.now c.loop-at.at (arm_view c.arm_at.result.now) c.requires.1.1 c.arm_at.ensures)

pub put_arms-loop-at-preserved : goal.put_arms-loop-at-preserved
put_arms-loop-at-preserved t c =
    joins_one (arm_text c.args.row.now) c.args.text.now c.loop-at.text c.put_arm.new.text c.loop-at.at c.args.list.now (arm_view c.arm_at.result.now) c.arm_at.ensures c.in_ok-put_arm.ensures c.loop-at.invariant

pub put_arms-returns : goal.put_arms-returns
put_arms-returns t c =
    joins_all (arm_text c.args.row.now) c.args.text.now c.loop-at.text c.loop-at.at c.args.list.now (omega (arith, c.loop-at-test.false, c.len-at-end.ensures)) c.loop-at.invariant
    ∙ ap (λ (z : List ℕ). c.args.text.now ++ z) (sym (arms_are c.args.row.now c.args.list.now))

pub put_between-returns : goal.put_between-returns
put_between-returns t c =
    let row = c.args.row.now in
    let e = by_three c.args.text.now c.put_within.new.text c.put_within-2.new.text
    (codes "(" ++ (text row c.args.of.now ++ codes " BETWEEN ")) ([] ++ (text row c.args.low.now ++ codes " AND ")) ([] ++ (text row c.args.high.now ++ codes ")"))
    (text row (between c.args.of.now c.args.low.now c.args.high.now))
    c.in_ok-put_within.ensures c.in_ok-put_within-2.ensures (between_three row c.args.of.now c.args.low.now c.args.high.now) in
    rw (← e) c.put_within-3.ensures

pub put_is-returns : goal.put_is-returns
put_is-returns t c =
    let row = c.args.row.now in
    let what = c.args.what in
    let second : c.put.new.text ≡ c.put_within.new.text ++ mark_text (what_mark what) = c.in_ok-put.ensures ∙ ap (λ (z : List ℕ). c.put_within.new.text ++ z) c.what_word.ensures in
    let e = by_three c.args.text.now c.put_within.new.text c.put.new.text
    (codes "(" ++ (text row c.args.of.now ++ codes " IS ")) (mark_text (what_mark what)) (codes ")")
    (text row (is what c.args.of.now))
    c.in_ok-put_within.ensures second (is_text row what c.args.of.now) in
    rw (← e) c.put-2.ensures

pub put_in-returns : goal.put_in-returns
put_in-returns t c =
    let row = c.args.row.now in
    let e = by_three c.args.text.now c.put_within.new.text c.put_exprs.new.text
    (codes "(" ++ (text row c.args.of.now ++ codes " IN (")) (list_text row c.args.list.now) (codes "))")
    (text row (member c.args.of.now (exs c.args.list.now)))
    c.in_ok-put_within.ensures c.in_ok-put_exprs.ensures (member_text row c.args.of.now c.args.list.now) in
    rw (← e) c.put.ensures

pub put_match-returns : goal.put_match-returns
put_match-returns t c =
    let row = c.args.row.now in
    let how = c.args.how in
    let inner = text row c.args.of.now in
    let first : c.put_within.new.text ≡ c.args.text.now ++ (before how ++ (inner ++ between_of how)) =
    c.in_ok-put_within.ensures ∙ (λ i. c.args.text.now ++ (c.match_before.ensures i ++ (inner ++ c.match_between.ensures i))) in
    let second : c.put_string.new.text ≡ c.put_within.new.text ++ in_quotes 39 c.args.matched.now = c.in_ok-put_string.ensures ∙ ap (λ (z : List ℕ). c.put_within.new.text ++ in_quotes 39 z) c.as_str.ensures in
    let e = by_three c.args.text.now c.put_within.new.text c.put_string.new.text
    (before how ++ (inner ++ between_of how)) (in_quotes 39 c.args.matched.now) (codes ")")
    (text row (matching how c.args.of.now c.args.matched.now))
    first second (matching_text row how c.args.of.now c.args.matched.now) in
    rw (← e) c.put.ensures

pub put_case-returns : goal.put_case-returns
put_case-returns t c =
    let row = c.args.row.now in
    let e = by_three c.args.text.now c.put.new.text c.put_arms.new.text
    (codes "(CASE") (arms_text row c.args.arms.now) (codes " ELSE " ++ (text row c.args.other.now ++ codes " END)"))
    (text row (choice (arms c.args.arms.now) c.args.other.now))
    c.in_ok-put.ensures c.in_ok-put_arms.ensures (case_text row c.args.arms.now c.args.other.now) in
    rw (← e) c.put_within.ensures

pub put_cast-returns : goal.put_cast-returns
put_cast-returns t c =
    let row = c.args.row.now in
    let to = c.args.to in
    let second : c.put.new.text ≡ c.put_within.new.text ++ cast_text to = c.in_ok-put.ensures ∙ ap (λ (z : List ℕ). c.put_within.new.text ++ z) c.cast_word.ensures in
    let e = by_three c.args.text.now c.put_within.new.text c.put.new.text
    (codes "CAST(" ++ (text row c.args.of.now ++ codes " AS ")) (cast_text to) (codes ")")
    (text row (cast to c.args.of.now))
    c.in_ok-put_within.ensures second (cast_call_text row to c.args.of.now) in
    rw (← e) c.put-2.ensures

pub put_call-returns : goal.put_call-returns
put_call-returns t c =
    let row = c.args.row.now in
    let name = c.args.name in
    let first : c.put.new.text ≡ c.args.text.now ++ function_text (func_word name) = c.in_ok-put.ensures ∙ ap (λ (z : List ℕ). c.args.text.now ++ z) c.func_name.ensures in
    let e = by_four c.args.text.now c.put.new.text c.put-2.new.text c.put_exprs.new.text
    (function_text (func_word name)) (codes "(") (list_text row c.args.args.now) (codes ")")
    (text row (call name (exs c.args.args.now)))
    first c.in_ok-put-2.ensures c.in_ok-put_exprs.ensures (call_text row name c.args.args.now) in
    rw (← e) c.put-3.ensures

pub put_trunc-returns : goal.put_trunc-returns
put_trunc-returns t c =
    let row = c.args.row.now in
    let part = c.args.part in
    let second : c.put-2.new.text ≡ c.put.new.text ++ part_text part = c.in_ok-put-2.ensures ∙ ap (λ (z : List ℕ). c.put.new.text ++ z) c.part_name.ensures in
    let e = by_three c.args.text.now c.put.new.text c.put-2.new.text
    (codes "DATE_TRUNC(") (part_text part) (codes ", " ++ (text row c.args.of.now ++ codes ")"))
    (text row (trunc part c.args.of.now))
    c.in_ok-put.ensures second (trunc_text row part c.args.of.now) in
    rw (← e) c.put_within.ensures

pub put_extract-returns : goal.put_extract-returns
put_extract-returns t c =
    let row = c.args.row.now in
    let part = c.args.part in
    let second : c.put-2.new.text ≡ c.put.new.text ++ part_text part = c.in_ok-put-2.ensures ∙ ap (λ (z : List ℕ). c.put.new.text ++ z) c.part_name.ensures in
    let e = by_three c.args.text.now c.put.new.text c.put-2.new.text
    (codes "EXTRACT(") (part_text part) (codes " FROM " ++ (text row c.args.of.now ++ codes ")"))
    (text row (extract part c.args.of.now))
    c.in_ok-put.ensures second (extract_text row part c.args.of.now) in
    rw (← e) c.put_within.ensures

pub put_shift-returns : goal.put_shift-returns
put_shift-returns t c =
    let row = c.args.row.now in
    let part = c.args.part in
    let second : c.put-2.new.text ≡ c.put.new.text ++ part_text part = c.in_ok-put-2.ensures ∙ ap (λ (z : List ℕ). c.put.new.text ++ z) c.part_name.ensures in
    let e = by_four c.args.text.now c.put.new.text c.put-2.new.text c.put_within.new.text
    (codes "DATE_ADD(") (part_text part) (codes ", " ++ (text row c.args.count.now ++ codes ", ")) ([] ++ (text row c.args.of.now ++ codes ")"))
    (text row (shift part c.args.count.now c.args.of.now))
    c.in_ok-put.ensures second c.in_ok-put_within.ensures (shift_text row part c.args.count.now c.args.of.now) in
    rw (← e) c.put_within-2.ensures
