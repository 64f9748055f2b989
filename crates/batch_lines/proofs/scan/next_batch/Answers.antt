use Rattle.std.proofs.Common.{arith, subst}
use Rattle.scan_files.specs.Places.{blocks_held}
use Rattle.scan_batches.specs.Scans.{SaysOfBatch}
use Rattle.scan_batches.specs.declared.fault.BatchFault.{BatchFault}
use Rattle.scan_batches.proofs.Named.{is_within, names, reading, no_read_fault}
use Rattle.batch_lines.proofs.scan.next_batch.Goals as goal

pub name_bad-requires : goal.name_bad-requires
name_bad-requires g c = is_within c.args.fields.now c.in-Ok.blocks.items c.deref.result.now c.deref.ensures.value c.in-Err-Bad.number (subst (λ (f : BatchFault). SaysOfBatch (blocks_held c.args.fields.now c.deref.result.now) f) c.in-Err-Bad.field-0-is c.in-Err-Bad.ensures.bad) c.deref-in-Err-Bad.result.now c.deref-in-Err-Bad.ensures.value

pub returns-in-Err-Bad-clause-bad : goal.returns-in-Err-Bad-clause-bad
returns-in-Err-Bad-clause-bad g c = names c.args.fields.now c.in-Ok.blocks.items c.deref.result.now c.deref.ensures.value c.in-Err-Bad.number (subst (λ (f : BatchFault). SaysOfBatch (blocks_held c.args.fields.now c.deref.result.now) f) c.in-Err-Bad.field-0-is c.in-Err-Bad.ensures.bad) c.deref-in-Err-Bad.result.now c.deref-in-Err-Bad.ensures.value c.name_bad.result c.name_bad.ensures
    _ (g.F.Files.told c.args.files.now) c.args.names.now c.args.places.now c.in-Ok.ensures.blocks

pub returns-in-Err-Bad-clause-reading : goal.returns-in-Err-Bad-clause-reading
returns-in-Err-Bad-clause-reading g c = reading c.args.fields.now c.in-Ok.blocks.items c.deref.result.now c.deref.ensures.value c.in-Err-Bad.number (subst (λ (f : BatchFault). SaysOfBatch (blocks_held c.args.fields.now c.deref.result.now) f) c.in-Err-Bad.field-0-is c.in-Err-Bad.ensures.bad) c.deref-in-Err-Bad.result.now c.deref-in-Err-Bad.ensures.value c.name_bad.result c.name_bad.ensures

pub returns-in-Err-Bad-clause-fault : goal.returns-in-Err-Bad-clause-fault
returns-in-Err-Bad-clause-fault g c = no_read_fault c.args.fields.now c.in-Ok.blocks.items c.deref.result.now c.deref.ensures.value c.in-Err-Bad.number (subst (λ (f : BatchFault). SaysOfBatch (blocks_held c.args.fields.now c.deref.result.now) f) c.in-Err-Bad.field-0-is c.in-Err-Bad.ensures.bad) c.deref-in-Err-Bad.result.now c.deref-in-Err-Bad.ensures.value c.name_bad.result c.name_bad.ensures
    _ _ (omega (arith, c.read_batch.ensures.fault.later))
