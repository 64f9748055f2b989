use Rattle.std.proofs.Common.{refl, arith}
use Rattle.pack_blocks.proofs.Writing.{writes_none}
use Rattle.pack_blocks.proofs.writer.BlockWriter.new.Goals as goal

pub returns : goal.returns
returns c = writes_none _ _ _ c.from.ensures refl c.new.ensures.items c.new-2.ensures refl refl c.requires.low c.requires.name c.know_field.ensures
