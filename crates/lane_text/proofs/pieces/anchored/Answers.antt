use Rattle.std.proofs.Common.{length, map, drop, ap, sym, ◌∙◌, refl}
use Rattle.std.specs.Prelude.{◌==◌}
use Rattle.std.specs.Str.{chars}
use Rattle.eval_meaning.specs.Matching.{is_empty}
use Rattle.lane_text.specs.Bytewise.{folded}
use Rattle.lane_text.specs.Pieces.{after_piece, floating}
use Rattle.lane_text.proofs.Chains.{anchored_none, anchored_only, anchored_step, tail_is, passes_none, passes_some}
use Rattle.lane_text.proofs.CharSteps.{whole_by_end}
use Rattle.lane_text.proofs.Folding.{folded_length}
use Rattle.lane_text.proofs.pieces.anchored.Goals as goal

pub returns-in-empty : goal.returns-in-empty
returns-in-empty c u = sym (anchored_none c.args.pieces.now _ c.in-empty.len_below)

pub returns-in-None : goal.returns-in-None
returns-in-None c u =
    sym (anchored_only c.args.pieces.now c.only-item.result _ c.in-len1.len_at_least c.in-len1.len_below c.only-item.is ∙ passes_none is_empty _ (c.in-None.ensures.rest u))

pub returns-in-Some : goal.returns-in-Some
returns-in-Some c u =
    whole_by_end (folded c.args.fold c.args.text.now) (after_piece (chars c.only-item.result) (chars (folded c.args.fold c.args.text.now))) c.in-Some.end (length c.args.text.now)
    (sym (folded_length c.args.fold c.args.text.now)) (c.in-Some.ensures.rest u) (c.in-Some.end == length c.args.text.now) refl
    ∙ sym (anchored_only c.args.pieces.now c.only-item.result _ c.in-len1.len_at_least c.in-len1.len_below c.only-item.is)

pub returns-in-None-after : goal.returns-in-None-after
returns-in-None-after c u =
    sym (anchored_step c.args.pieces.now c.first-item.result (chars (folded c.args.fold c.args.text.now)) c.in-len1-up.len_at_least c.first-item.is ∙ passes_none (floating (map chars (drop 1 c.args.pieces.now))) _ (c.in-None-after.ensures.rest u))

pub returns-in-Some-after : goal.returns-in-Some-after
returns-in-Some-after c u =
    let found = c.in-Some-after.ensures.rest u in
    c.floating.ensures found.2
    ∙ ap (λ ps. floating (map chars ps) (chars (drop c.in-Some-after.end (folded c.args.fold c.args.text.now)))) (tail_is c.args.pieces.now)
    ∙ sym (anchored_step c.args.pieces.now c.first-item.result (chars (folded c.args.fold c.args.text.now)) c.in-len1-up.len_at_least c.first-item.is
    ∙ passes_some (floating (map chars (drop 1 c.args.pieces.now))) _ _ found.0)
