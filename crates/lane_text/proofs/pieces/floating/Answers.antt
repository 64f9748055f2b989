use Rattle.std.proofs.Common.{◌+◌, map, drop, sym, ◌∙◌}
use Rattle.std.specs.Str.{chars}
use Rattle.lane_text.specs.Bytewise.{folded}
use Rattle.lane_text.specs.Pieces.{floating}
use Rattle.lane_text.proofs.Chains.{floating_step, floating_last, passes_none, passes_some}
use Rattle.lane_text.proofs.pieces.floating.Goals as goal

pub returns-in-None : goal.returns-in-None
returns-in-None c u =
    sym (c.loop-index.invariant.same u
    ∙ floating_step c.args.pieces.now c.loop-index.index c.index-pieces-index.result (chars (drop c.loop-index.at (folded c.args.fold c.args.text.now))) c.loop-index-test.true c.index-pieces-index.is
    ∙ passes_none (floating (map chars (drop (c.loop-index.index + 1) c.args.pieces.now))) _ (c.in-None.ensures.rest (c.loop-index.invariant.utf8 u)))

pub loop-index-preserved : goal.loop-index-preserved
loop-index-preserved c = record {
  within = c.in-Some.ensures.within;
  some = c.loop-index-test.true;
  utf8 = λ u. (c.in-Some.ensures.rest (c.loop-index.invariant.utf8 u)).2;
  same = λ u. c.loop-index.invariant.same u
      ∙ floating_step c.args.pieces.now c.loop-index.index c.index-pieces-index.result (chars (drop c.loop-index.at (folded c.args.fold c.args.text.now))) c.loop-index-test.true c.index-pieces-index.is
      ∙ passes_some (floating (map chars (drop (c.loop-index.index + 1) c.args.pieces.now))) _ _ (c.in-Some.ensures.rest (c.loop-index.invariant.utf8 u)).0;
}

pub returns : goal.returns
returns c u =
    c.ends_from.ensures (c.loop-index.invariant.utf8 u)
    ∙ sym (c.loop-index.invariant.same u
    ∙ floating_last c.args.pieces.now c.loop-index.index c.index-pieces-index-2.result (chars (drop c.loop-index.at (folded c.args.fold c.args.text.now)))
    c.loop-index.invariant.some c.loop-index-test.false c.index-pieces-index-2.is)
