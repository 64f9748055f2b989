use Rattle.lane_text.specs.Bytewise.{folded}
use Rattle.lane_text.proofs.BytesAsChars.{rest_is, rest_within}
use Rattle.lane_text.proofs.Folding.{folded_length}
use Rattle.lane_text.proofs.scan.after_piece.Goals as goal

pub returns-clause-within : goal.returns-clause-within
returns-clause-within c = rest_within _ _ _ _ (folded_length c.args.fold c.args.text.now) c.after_bytes.ensures

pub returns-clause-rest : goal.returns-clause-rest
returns-clause-rest c u = rest_is c.args.piece.now (folded c.args.fold c.args.text.now) c.after_bytes.result c.requires u c.after_bytes.ensures
