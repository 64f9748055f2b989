use Rattle.std.proofs.Common.{refl}
use Rattle.eval_meaning.specs.Evaluation.{binary}
use Rattle.program_meaning.specs.Instructions as instr
use Rattle.program_meaning.specs.Registers.{after, value_at}
use Rattle.plan_lower.proofs.Showing.{put_shows}
use Rattle.plan_lower.proofs.operators.put_bin.Goals as goal

pub returns : goal.returns
returns c =
    let old = c.args.builder.now in
    let o = c.args.op in
    let a = c.args.a in
    let b = c.args.b in
    put_shows c.put.result old c.put.new.self (instr.bin c.args.mask o a b) c.args.mask (λ l. binary o (value_at (after l old) a) (value_at (after l old) b)) refl (λ l. refl) c.put.ensures.ok c.put.ensures.number
