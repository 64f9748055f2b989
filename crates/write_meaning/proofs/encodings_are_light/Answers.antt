use Rattle.write_meaning.proofs.Encoded.{encodings_are_light}
use Rattle.write_meaning.proofs.encodings_are_light.Goals as goal

pub returns : goal.returns
returns c = encodings_are_light
