use Rattle.write_meaning.proofs.Bounded.{blocks_are_light}
use Rattle.write_meaning.proofs.blocks_are_light.Goals as goal

pub returns : goal.returns
returns c = blocks_are_light
