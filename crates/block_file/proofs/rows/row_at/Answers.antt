use Rattle.std.proofs.Common.{◌∙◌}
use Rattle.ion_cells.specs.Shown.{is_symbol_cell}
use Rattle.block_file.proofs.RowAt.{row_there, no_struct, no_cell}
use Rattle.block_file.proofs.rows.row_at.Goals as goal

pub returns-in-Struct-clause-row : goal.returns-in-Struct-clause-row
returns-in-Struct-clause-row c table has =
    row_there table c.args.bytes.now c.args.at c.args.last c.in-Ok.cell (is_symbol_cell c.in-Ok.cell) c.in-Ok.ensures.last has (c.in-Ok.ensures.shows table has) c.in-Ok.ensures.stands.0 (c.in-Struct.ensures table)

pub returns-in_default : goal.returns-in_default
returns-in_default c = record {
  row = tt;
  within = tt;
  none =
      λ table has.
      no_struct table c.args.bytes.now c.args.at c.args.last c.in-Ok.cell (is_symbol_cell c.in-Ok.cell) c.in-Ok.ensures.last has (c.in-Ok.ensures.shows table has) c.in-Ok.ensures.stands.0 (λ fits e. c.in_default.not-Struct (c.kind.ensures table fits ∙ e));
}

pub returns-in-Err-clause-none : goal.returns-in-Err-clause-none
returns-in-Err-clause-none c table has = no_cell table c.args.bytes.now c.args.at c.args.last has c.in-Err.ensures.bad
