use Rattle.std.proofs.Common.{arith}
use Rattle.snel_words.specs.Asked.{packing_view}
use Rattle.snel_command.specs.Outcomes.{status_of_pack}
use Rattle.snel_command.proofs.PackedSo.{made, makes, comes, no_cut}
use Rattle.snel_command.proofs.run.pack_lines.Goals as goal

pub returns-in-Ok-put_sum-clause-told : goal.returns-in-Ok-put_sum-clause-told
returns-in-Ok-put_sum-clause-told g c =
    made (packing_view c.args.packing.now) c.args.name.now (g.F.Files.told c.args.files.now) (g.I.Input.left c.args.input.now) 0
    (g.F.Files.told c.args.files.now) (g.F.Files.told c.pack.new.files) (λ e. omega (arith, e)) (λ e. omega (arith, e)) c.in-Ok.ensures.file c.in-Ok.ensures.holds

pub returns-in-Err-put_sum-clause-told : goal.returns-in-Err-put_sum-clause-told
returns-in-Err-put_sum-clause-told g c =
    let f = c.in-Err-put_sum.fault in
    let only = c.in-Err-put_sum.ensures.only in
    made (packing_view c.args.packing.now) c.args.name.now (g.F.Files.told c.args.files.now) (g.I.Input.left c.args.input.now) (status_of_pack f)
    (g.F.Files.told c.args.files.now) (g.F.Files.told c.pack.new.files)
    (no_cut f 11 only (λ e. omega (arith, e)) (λ e. omega (arith, e))) (no_cut f 12 only (λ e. omega (arith, e)) (λ e. omega (arith, e)))
    c.in-Ok.ensures.file c.in-Ok.ensures.holds

pub returns-in-Err-clause-packs : goal.returns-in-Err-clause-packs
returns-in-Err-clause-packs g c =
    comes (packing_view c.args.packing.now) c.args.name.now (g.F.Files.told c.args.files.now) (g.I.Input.left c.args.input.now)
    (g.F.Files.write_faults c.args.files.now) (g.F.Files.write_faults c.pack.new.files) (g.I.Input.faults c.args.input.now) (g.I.Input.faults c.pack.new.input)
    (g.O.Out.faults c.args.out.now) (g.O.Out.faults c.args.out.now)
    c.in-Err.fault c.in-Err.ensures.exists c.in-Err.ensures.refused c.in-Err.ensures.read_fault c.in-Err.ensures.write_fault

pub returns-in-Err-clause-told : goal.returns-in-Err-clause-told
returns-in-Err-clause-told g c =
    makes (packing_view c.args.packing.now) c.args.name.now (g.F.Files.told c.args.files.now) (g.I.Input.left c.args.input.now) c.in-Err.fault
    (g.F.Files.told c.args.files.now) (g.F.Files.told c.pack.new.files) c.in-Err.ensures.refused c.in-Err.ensures.before c.in-Err.ensures.front c.in-Err.ensures.kept
