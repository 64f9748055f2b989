use Rattle.std.proofs.Common.{drop, refl}
use Rattle.lane_text.specs.Pieces.{pieces}
use Rattle.lane_text.proofs.Percents.{cut_step, cut_last, pushed, pushed_last}
use Rattle.lane_text.proofs.pieces.cut.Goals as goal

pub push-requires : goal.push-requires
push-requires c = (cut_step c.args.pattern.now c.loop-count.start c.in-Some.count c.loop-count.invariant.within c.loop-count.invariant.utf8 c.in-Some.ensures).piece

pub loop-count-preserved : goal.loop-count-preserved
loop-count-preserved c =
    let step = cut_step c.args.pattern.now c.loop-count.start c.in-Some.count c.loop-count.invariant.within c.loop-count.invariant.utf8 c.in-Some.ensures in
    record {
      within = step.within;
      utf8 = step.utf8;
      same = pushed c.loop-count.pieces.items c.push.new.pieces.items _ _ (pieces (drop c.loop-count.start c.args.pattern.now)) _ (pieces c.args.pattern.now)
          c.in_ok-push.ensures refl c.loop-count.invariant.same step.same;
    }

pub returns : goal.returns
returns c =
    pushed_last c.loop-count.pieces.items c.push-2.new.pieces.items _ _ (pieces (drop c.loop-count.start c.args.pattern.now)) (pieces c.args.pattern.now)
    c.in_ok-push-2.ensures refl c.loop-count.invariant.same (cut_last c.args.pattern.now c.loop-count.start c.in_default.ensures)
