use Rattle.std.proofs.Common.{refl}
use Rattle.value_meaning.specs.Val.{null}
use Rattle.program_meaning.specs.Instructions as instr
use Rattle.plan_lower.proofs.Operations.{null_if_shown}
use Rattle.plan_lower.proofs.Showing.{if_ok, shows_last}
use Rattle.plan_lower.proofs.functions.put_null_if.Goals as goal

pub returns : goal.returns
returns c =
    let p = c.put_bin.new.builder in
    let q = c.put_true.new.builder in
    let s = c.put.new.self in
    let m = c.args.mask in
    let nothing = shows_last q s (instr.const m null) m (λ l. null) c.in_ok-null.null refl (λ l. refl) c.in_ok-null.ensures.ok c.in_ok-null.ensures.number in
    if_ok c.put_merge.result
    (λ r. null_if_shown c.args.builder.now m c.requires.mask p q s c.put_merge.new.builder c.args.a c.args.b c.in_ok-of.of c.in_ok-pick.pick c.in_ok-null.null r c.requires.a c.in_ok-of.ensures c.in_ok-pick.ensures nothing)
    c.put_merge.ensures
