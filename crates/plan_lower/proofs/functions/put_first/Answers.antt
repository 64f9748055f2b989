use Rattle.std.proofs.Common.{ℕ, ◌<◌, refl}
use Rattle.eval_meaning.specs.Logic.{first_of}
use Rattle.program_meaning.specs.Instructions as instr
use Rattle.program_meaning.specs.Programs.{value_count}
use Rattle.program_meaning.specs.Registers.{after, value_at}
use Rattle.plan_lower.proofs.Items.{all_at}
use Rattle.plan_lower.proofs.Operations.{first_operand, next_operand}
use Rattle.plan_lower.proofs.Showing.{mask_known, value_known, shows_last}
use Rattle.plan_lower.proofs.functions.put_first.Goals as goal

pub put-requires : goal.put-requires
put-requires c =
    let old = c.args.builder.now in
    let mid = c.loop-at.builder in
    let h = c.loop-at.invariant in
    record {
      names = (
        mask_known old mid c.args.mask h.extends c.requires.mask,
        h.made,
        value_known old mid c.register_at-b.result h.extends (all_at (λ (r : ℕ). r < value_count old) c.args.args.now c.loop-at.at c.register_at-b.result c.register_at-b.ensures c.requires.values),
      );
    }

pub loop-at-init : goal.loop-at-init
loop-at-init c = first_operand c.args.builder.now c.args.mask c.requires.mask c.args.args.now c.register_at-first.result c.register_at-first.ensures c.requires.values

pub loop-at-preserved : goal.loop-at-preserved
loop-at-preserved c =
    let mid = c.loop-at.builder in
    let new = c.put.new.self in
    let m = c.args.mask in
    let a = c.loop-at.first in
    let b = c.register_at-b.result in
    let r = c.in_ok-first.first in
    next_operand c.args.builder.now m c.requires.mask mid new c.args.args.now c.loop-at.at b a r c.register_at-b.ensures c.requires.values c.loop-at.invariant
    (shows_last mid new (instr.first m a b) m (λ l. first_of (value_at (after l mid) a) (value_at (after l mid) b)) r refl (λ l. refl) c.in_ok-first.ensures.ok c.in_ok-first.ensures.number)
