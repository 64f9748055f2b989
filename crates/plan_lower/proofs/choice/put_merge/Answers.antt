use Rattle.std.proofs.Common.{refl, cond}
use Rattle.program_meaning.specs.Instructions as instr
use Rattle.program_meaning.specs.Registers.{after, mask_at, value_at}
use Rattle.plan_lower.proofs.Showing.{put_shows}
use Rattle.plan_lower.proofs.choice.put_merge.Goals as goal

pub returns : goal.returns
returns c =
    let old = c.args.builder.now in
    let pick = c.args.pick in
    let a = c.args.a in
    let b = c.args.b in
    put_shows c.put.result old c.put.new.self (instr.merge c.args.mask pick a b) c.args.mask (λ l. cond (mask_at (after l old) pick) (value_at (after l old) a) (value_at (after l old) b)) refl (λ l. refl) c.put.ensures.ok c.put.ensures.number
