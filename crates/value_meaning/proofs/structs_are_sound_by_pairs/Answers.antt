use Rattle.value_meaning.proofs.SoundLaws.{NamesRise-fields, HasSoundFields-all, HasSoundFields-from_all}
use Rattle.value_meaning.proofs.structs_are_sound_by_pairs.Goals as goal

pub returns : goal.returns
returns c fs = (λ h. (NamesRise-fields fs h, HasSoundFields-all fs h), λ h. HasSoundFields-from_all fs h.0 h.1)
