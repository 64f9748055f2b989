use Rattle.ion_cells.specs.Shown.{shown}
use Rattle.ion_cells.proofs.Denoting.{text_is, no_text_is}
use Rattle.ion_cells.proofs.cell.Cell.text.Goals as goal

pub returns-in-Text : goal.returns-in-Text
returns-in-Text c table h =
    text_is c.args.self.now (shown table c.args.self.now) c.in-Text.text.now c.in-Text.ensures.symbol (c.in-Text.ensures.value table h)

pub returns-in_default : goal.returns-in_default
returns-in_default c table h =
    no_text_is c.args.self.now (shown table c.args.self.now) table c.content.result c.in_default.not-Text (c.content.ensures.value table h) c.content.ensures.symbol
