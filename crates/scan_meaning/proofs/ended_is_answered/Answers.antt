use Rattle.scan_meaning.proofs.Ended.{ended_is_answered}
use Rattle.scan_meaning.proofs.ended_is_answered.Goals as goal

pub returns : goal.returns
returns c = ended_is_answered
