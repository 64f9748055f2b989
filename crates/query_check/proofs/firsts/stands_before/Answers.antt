use Rattle.std.proofs.Common.{◌≡◌, ◌∙◌, sym, nat_eq, true, false, take, arith, ap, List, ℕ, Some}
use Rattle.std.specs.Str.{bytes_eq}
use Rattle.std.specs.Cmp.Lexicographic.{pointwise}
use Rattle.query_walk.proofs.Searching.{any_here, any_next, any_end}
use Rattle.query_check.proofs.Limits.{get_taken, length_taken, named_as}
use Rattle.query_check.proofs.firsts.stands_before.Goals as goal

pub returns-then-eq : goal.returns-then-eq
returns-then-eq c name h =
    let test : pointwise nat_eq c.as_str-name.result.now c.name_at-in-loop-before.result.now ≡ true = cc in
    let here = get_taken c.args.names.now c.args.at c.loop-before.before c.name_at-in-loop-before.result.now c.loop-before-test.true c.name_at-in-loop-before.ensures in
    let found = any_here (bytes_eq c.as_str-name.result.now) (take c.args.at c.args.names.now) c.loop-before.before _ c.name_at-in-loop-before.result.now here test c.loop-before.invariant in
    named_as c.args.names.now c.args.at c.as_str-name.result.now name true (c.name_at.ensures ∙ ap (λ (n : List ℕ). Some n) (sym c.as_str-name.ensures)) h (sym found)

pub loop-before-preserved : goal.loop-before-preserved
loop-before-preserved c =
    let test : pointwise nat_eq c.as_str-name.result.now c.name_at-in-loop-before.result.now ≡ false = cc in
    let here = get_taken c.args.names.now c.args.at c.loop-before.before c.name_at-in-loop-before.result.now c.loop-before-test.true c.name_at-in-loop-before.ensures in
    any_next (bytes_eq c.as_str-name.result.now) (take c.args.at c.args.names.now) c.loop-before.before _ c.name_at-in-loop-before.result.now here test c.loop-before.invariant

pub returns : goal.returns
returns c name h =
    let before = take c.args.at c.args.names.now in
    let ended = any_end (bytes_eq c.as_str-name.result.now) before c.loop-before.before _ (omega (arith, length_taken c.args.names.now c.args.at, c.loop-before-test.false)) c.loop-before.invariant in
    named_as c.args.names.now c.args.at c.as_str-name.result.now name false (c.name_at.ensures ∙ ap (λ (n : List ℕ). Some n) (sym c.as_str-name.ensures)) h (sym ended)
