use Rattle.std.proofs.Common.{IsUtf8, ap, sym, subst, ◌∙◌}
use Rattle.std.specs.Str.{chars}
use Rattle.lane_text.specs.Pieces.{ends_in}
use Rattle.lane_text.proofs.Advance.{folded_rest}
use Rattle.lane_text.proofs.pieces.ends_from.Goals as goal

pub returns : goal.returns
returns c u =
    let same = folded_rest c.args.fold c.args.text.now c.args.at in
    c.ends.ensures (subst IsUtf8 (sym same) u) ∙ ap (λ t. ends_in (chars c.args.piece.now) (chars t)) same
