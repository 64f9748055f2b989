use Rattle.std.proofs.Common.{length, drop, sym, refl}
use Rattle.std.specs.Prelude.{◌==◌}
use Rattle.std.specs.Str.{chars}
use Rattle.lane_text.specs.Bytewise.{folded}
use Rattle.lane_text.specs.Pieces.{after_piece}
use Rattle.lane_text.proofs.CharSteps.{whole_none, whole_by_end}
use Rattle.lane_text.proofs.Folding.{folded_length}
use Rattle.lane_text.proofs.scan.is_whole_at.Goals as goal

pub returns-in-None : goal.returns-in-None
returns-in-None c u = sym (whole_none _ (c.in-None.ensures.rest u))

pub returns-in-Some : goal.returns-in-Some
returns-in-Some c u =
    whole_by_end (folded c.args.fold c.args.text.now) (after_piece (chars c.args.piece.now) (chars (drop c.args.at (folded c.args.fold c.args.text.now))))
    c.in-Some.end (length c.args.text.now) (sym (folded_length c.args.fold c.args.text.now)) (c.in-Some.ensures.rest u) (c.in-Some.end == length c.args.text.now) refl
