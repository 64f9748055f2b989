use Rattle.std.proofs.Common.{◌∙◌}
use Rattle.block_meaning.proofs.LastSymbol.{cell_of_blank}
use Rattle.ion_cells.specs.Shown.{cell_bytes}
use Rattle.lane_field.proofs.load.under_table.Goals as goal

pub under-requires : goal.under-requires
under-requires c = cell_of_blank c.args.table.now c.last.result (cell_bytes c.args.cell) c.last.ensures ∙ c.requires.legal
