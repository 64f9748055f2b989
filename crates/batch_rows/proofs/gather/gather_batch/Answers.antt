use Rattle.std.proofs.Common.{◌∙◌, List, length, ap, arith, subst}
use Rattle.std.proofs.lemmas.List.{length-map}
use Rattle.query_tree.specs.Queries.{query_view}
use Rattle.scan_files.specs.Places.{Held, block_held, blocks_held}
use Rattle.scan_batches.specs.Scans.{SaysOfBatch}
use Rattle.scan_batches.specs.declared.fault.BatchFault.{BatchFault}
use Rattle.scan_batches.proofs.Named.{is_within, names, reading, no_read_fault}
use Rattle.batch_rows.proofs.Handing.{handed}
use Rattle.batch_rows.proofs.gather.gather_batch.Goals as goal

pub name_bad-requires : goal.name_bad-requires
name_bad-requires g c = is_within c.args.fields.now c.in-Ok.blocks.items c.deref.result.now c.deref.ensures.value c.in-Err-Bad.number (subst (λ (f : BatchFault). SaysOfBatch (blocks_held c.args.fields.now c.deref.result.now) f) c.in-Err-Bad.field-0-is c.in-Err-Bad.ensures.bad) c.deref-in-Err-Bad.result.now c.deref-in-Err-Bad.ensures.value

pub returns-in-Err-Bad-clause-bad : goal.returns-in-Err-Bad-clause-bad
returns-in-Err-Bad-clause-bad g c = names c.args.fields.now c.in-Ok.blocks.items c.deref.result.now c.deref.ensures.value c.in-Err-Bad.number (subst (λ (f : BatchFault). SaysOfBatch (blocks_held c.args.fields.now c.deref.result.now) f) c.in-Err-Bad.field-0-is c.in-Err-Bad.ensures.bad) c.deref-in-Err-Bad.result.now c.deref-in-Err-Bad.ensures.value c.name_bad.result c.name_bad.ensures
    _ (g.F.Files.told c.args.files.now) c.args.names.now c.args.places.now c.in-Ok.ensures.blocks

pub returns-in-Err-Bad-clause-reading : goal.returns-in-Err-Bad-clause-reading
returns-in-Err-Bad-clause-reading g c = reading c.args.fields.now c.in-Ok.blocks.items c.deref.result.now c.deref.ensures.value c.in-Err-Bad.number (subst (λ (f : BatchFault). SaysOfBatch (blocks_held c.args.fields.now c.deref.result.now) f) c.in-Err-Bad.field-0-is c.in-Err-Bad.ensures.bad) c.deref-in-Err-Bad.result.now c.deref-in-Err-Bad.ensures.value c.name_bad.result c.name_bad.ensures

pub returns-in-Err-Bad-clause-fault : goal.returns-in-Err-Bad-clause-fault
returns-in-Err-Bad-clause-fault g c = no_read_fault c.args.fields.now c.in-Ok.blocks.items c.deref.result.now c.deref.ensures.value c.in-Err-Bad.number (subst (λ (f : BatchFault). SaysOfBatch (blocks_held c.args.fields.now c.deref.result.now) f) c.in-Err-Bad.field-0-is c.in-Err-Bad.ensures.bad) c.deref-in-Err-Bad.result.now c.deref-in-Err-Bad.ensures.value c.name_bad.result c.name_bad.ensures
    _ _ (omega (arith, c.read_batch.ensures.fault.later))

pub returns-in-Ok-scan_blocks-clause-gathered : goal.returns-in-Ok-scan_blocks-clause-gathered
returns-in-Ok-scan_blocks-clause-gathered g c =
    let fields = c.args.fields.now in
    let held = c.deref.result.now in
    let same = c.deref.ensures.value in
    let met = g.met.S.RowSink g.world.𝓛 g.world.𝓜 g.world.𝓡 ((λ s x. x), (λ x. x), (λ x. x), λ x. x) in (
      blocks_held fields held,
      λ files is. ap (λ (l : List Held). blocks_held fields l) same ∙ c.in-Ok.ensures.blocks files is fields,
      length-map held (block_held fields) ∙ ap (λ (l : List Held). length l) same ∙ c.in-Ok.ensures.count,
      λ rows first h. handed g.S.RowSink.grew c.args.job.now met.grew_by_both (query_view c.args.query.now) c.requires.simulates (blocks_held fields held) first c.args.sink.now c.scan_blocks.new.sink _ _ _ _ c.in-Ok-scan_blocks.ensures.handed rows h,
    )
