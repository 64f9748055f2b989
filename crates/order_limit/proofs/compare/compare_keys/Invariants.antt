use Rattle.std.proofs.Common.{◌≡◌, drop}
use Rattle.value_meaning.specs.Val.{missing}
use Rattle.snel_values.specs.View.{view}
use Rattle.order_limit.specs.Padded.{padded_cmp}
use Rattle.order_limit.proofs.compare.compare_keys.Given as goal

abbrev pub invariant-loop-i : goal.invariant-loop-i
invariant-loop-i l = record {
  absent : view l.absent ≡ missing;
  sofar : padded_cmp l.falling l.a l.b ≡ padded_cmp (drop l.i l.falling) (drop l.i l.a) (drop l.i l.b);
}
