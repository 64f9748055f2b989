use Rattle.value_meaning.proofs.SoundLaws.{AreSound-vals, AreSound-from_all}
use Rattle.value_meaning.proofs.lists_are_sound_by_items.Goals as goal

pub returns : goal.returns
returns c vs = (AreSound-vals vs, AreSound-from_all vs)
