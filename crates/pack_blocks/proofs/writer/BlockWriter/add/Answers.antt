use Rattle.std.proofs.Common.{refl, ap, arith, ◌∙◌, ◌≡◌, Err}
use Rattle.pack_blocks.proofs.Writing.{may_close, row_joined, joined_full, row_opened, opened_full}
use Rattle.pack_blocks.specs.declared.writer.RowFault.TheVariants.{Full}
use Rattle.pack_blocks.proofs.writer.BlockWriter.add.Goals as goal

pub open-requires : goal.open-requires
open-requires c = may_close _ c.args.self.now _ c.weight-weight.result c.takes.result c.requires c.weight-weight.ensures c.takes.ensures c.if-takes.false

pub returns-in-Ok-clause-added : goal.returns-in-Ok-clause-added
returns-in-Ok-clause-added c =
    let e = c.in-Ok.ensures in
    row_joined _ c.args.self.now c.args.row c.weight-weight.result c.takes.result c.requires c.weight-weight.ensures c.takes.ensures c.join.new.self c.new.result c.if-takes.true c.know.ensures
    e.few e.rows e.weight e.most e.entries e.written e.count c.new.ensures

pub returns-in-Err-clause-full : goal.returns-in-Err-clause-full
returns-in-Err-clause-full c = λ is.
    joined_full _ c.args.self.now c.args.row c.weight-weight.result c.takes.result c.requires c.weight-weight.ensures c.takes.ensures c.if-takes.true (c.in-Err.ensures.full (let same : c.in-Err.fault ≡ Full = cc in ap (λ f. Err f) same))

pub returns-in-Ok-open-clause-added : goal.returns-in-Ok-open-clause-added
returns-in-Ok-open-clause-added c =
    let e = c.in-Ok-open.ensures in
    row_opened _ c.args.self.now c.args.row c.weight-weight.result c.takes.result c.requires c.weight-weight.ensures c.takes.ensures c.open.new.self c.in-Ok-open.closed c.if-takes.false c.know.ensures
    e.few e.block e.light e.rows e.weight e.most e.entries e.written e.count

pub returns-in-Err-open-clause-full : goal.returns-in-Err-open-clause-full
returns-in-Err-open-clause-full c = λ is.
    opened_full _ c.args.self.now c.args.row c.weight-weight.result c.takes.result c.requires c.weight-weight.ensures c.takes.ensures c.if-takes.false (c.in-Err-open.ensures.full is)
