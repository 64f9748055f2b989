use Rattle.std.proofs.Common.{ℕ, ◌<◌}
use Rattle.program_meaning.specs.Programs.{value_count}
use Rattle.plan_lower.proofs.Items.{all_at}
use Rattle.plan_lower.proofs.Operations.{first_member, next_member}
use Rattle.plan_lower.proofs.Showing.{mask_known, value_known}
use Rattle.plan_lower.proofs.operators.put_member.Goals as goal

pub put_bin-requires-clause-b : goal.put_bin-requires-clause-b
put_bin-requires-clause-b c = all_at (λ (r : ℕ). r < value_count c.args.builder.now) c.args.members.now 0 c.register_at.result c.register_at.ensures c.requires.values

pub put_bin-requires-in-loop-at-clause-mask : goal.put_bin-requires-in-loop-at-clause-mask
put_bin-requires-in-loop-at-clause-mask c = mask_known c.args.builder.now c.loop-at.builder c.args.mask c.loop-at.invariant.extends c.requires.mask

pub put_bin-requires-in-loop-at-clause-a : goal.put_bin-requires-in-loop-at-clause-a
put_bin-requires-in-loop-at-clause-a c = value_known c.args.builder.now c.loop-at.builder c.args.of c.loop-at.invariant.extends c.requires.of

pub put_bin-requires-in-loop-at-clause-b : goal.put_bin-requires-in-loop-at-clause-b
put_bin-requires-in-loop-at-clause-b c =
    value_known c.args.builder.now c.loop-at.builder c.register_at-in-loop-at.result c.loop-at.invariant.extends
    (all_at (λ (r : ℕ). r < value_count c.args.builder.now) c.args.members.now c.loop-at.at c.register_at-in-loop-at.result c.register_at-in-loop-at.ensures c.requires.values)

pub loop-at-init : goal.loop-at-init
loop-at-init c = first_member c.args.builder.now c.args.mask c.requires.mask c.put_bin.new.builder c.args.members.now c.args.of c.register_at.result c.in_ok-found.found c.register_at.ensures c.in_ok-found.ensures

pub loop-at-preserved : goal.loop-at-preserved
loop-at-preserved c =
    next_member c.args.builder.now c.args.mask c.requires.mask c.loop-at.builder c.put_bin-in-loop-at.new.builder c.put_bin-in-loop-at-2.new.builder c.args.members.now c.loop-at.at c.args.of c.register_at-in-loop-at.result c.loop-at.found c.in_ok-equal.equal
    c.in_ok-found-2.found c.register_at-in-loop-at.ensures c.requires.of c.requires.values c.loop-at.invariant c.in_ok-equal.ensures c.in_ok-found-2.ensures
