use Rattle.std.proofs.Common.{◌≡◌, drop, arith, Err, ap}
use Rattle.ion_cells.specs.Standing.{HasLast}
use Rattle.block_file.specs.declared.fault.BlockFault.TheVariants as BlockFault
use Rattle.block_file.proofs.Opened.{opened, bad_table, bad_rows}
use Rattle.block_file.proofs.opening.open_block.Goals as goal

pub returns-in-Ok-rows_at-clause-rows : goal.returns-in-Ok-rows_at-clause-rows
returns-in-Ok-rows_at-clause-rows c =
    let has : HasLast c.in-Ok.table c.last.result = omega arith in
    opened c.in-Ok.table c.of_rows.result.0 c.of_rows.result.1 c.in-Ok-rows_at.cells.items c.args.bytes.now c.in-Some.rest.now (drop c.in-Ok.end c.in-Some.rest.now) c.args.rows (omega arith) c.in-Some.ensures c.in-Ok.ensures.reads (c.in-Ok-rows_at.ensures.rows c.in-Ok.table has) c.of_rows.ensures.table c.of_rows.ensures.rows

pub returns-in-Ok-clause-damaged : goal.returns-in-Ok-clause-damaged
returns-in-Ok-clause-damaged c e =
    let has : HasLast c.in-Ok.table c.last.result = omega arith in
    let same : c.in-Err.fault ≡ BlockFault.Damaged = cc in
    bad_rows c.in-Ok.table c.args.bytes.now c.in-Some.rest.now (drop c.in-Ok.end c.in-Some.rest.now) c.args.rows c.in-Some.ensures c.in-Ok.ensures.reads (c.in-Err.ensures.damaged (ap Err same) c.in-Ok.table has)

pub returns-in-Err-BadTable-clause-damaged : goal.returns-in-Err-BadTable-clause-damaged
returns-in-Err-BadTable-clause-damaged c e = bad_table c.args.bytes.now c.in-Some.rest.now c.args.rows c.in-Some.ensures (c.in-Err-BadTable.ensures.bad (ap Err c.in-Err-BadTable.field-0-is))
