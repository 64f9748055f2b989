use Rattle.std.proofs.Common.{IsUtf8, subst, sym, ◌∙◌}
use Rattle.lane_text.proofs.Folding.{lower_utf8}
use Rattle.lane_text.proofs.pattern.pieces_of.Goals as goal

pub cut-requires-in-ILike : goal.cut-requires-in-ILike
cut-requires-in-ILike c = subst IsUtf8 (sym (c.deref.ensures.value ∙ c.in_ok-lowered-in-ILike.ensures)) (lower_utf8 c.args.text.now c.requires)
