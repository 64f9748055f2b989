use Rattle.std.proofs.Common.{sym, ap, ◌∙◌, map, true, false}
use Rattle.std.specs.Str.{chars}
use Rattle.lane_text.specs.Bytewise.{folded}
use Rattle.lane_text.specs.Pieces.{anchored, pieces}
use Rattle.eval_meaning.specs.Matching.{matches}
use Rattle.lane_text.specs.PatternValue.{PatternValue, pieces_for}
use Rattle.lane_text.proofs.Chains.{like_is, ilike_is}
use Rattle.lane_text.proofs.Folding.{folded_utf8, unfolded}
use Rattle.lane_text.proofs.pattern.Pattern.matches.Goals as goal

pub returns-in-Like : goal.returns-in-Like
returns-in-Like c u =
    let utf8 = c.self.invariant.0 in
    let cut = c.deref.ensures.value ∙ c.self.invariant.1 ∙ ap (λ h. pieces_for h c.self.inside.text.items) c.in-Like.is in
    c.anchored.ensures (folded_utf8 false c.args.text.now u)
    ∙ ap (λ ps. anchored (map chars ps) (chars (folded false c.args.text.now))) cut
    ∙ ap (λ t. anchored (map chars (pieces c.self.inside.text.items)) (chars t)) (unfolded c.args.text.now)
    ∙ like_is c.self.inside.text.items c.args.text.now utf8
    ∙ ap (λ h. matches h c.self.inside.text.items c.args.text.now) (sym c.in-Like.is)
    ∙ ap (λ (w : PatternValue). matches w.how w.text c.args.text.now) c.self.view_is

pub returns-in-ILike : goal.returns-in-ILike
returns-in-ILike c u =
    let utf8 = c.self.invariant.0 in
    let cut = c.deref-in-ILike.ensures.value ∙ c.self.invariant.1 ∙ ap (λ h. pieces_for h c.self.inside.text.items) c.in-ILike.is in
    c.anchored-in-ILike.ensures (folded_utf8 true c.args.text.now u)
    ∙ ap (λ ps. anchored (map chars ps) (chars (folded true c.args.text.now))) cut
    ∙ ilike_is c.self.inside.text.items c.args.text.now utf8 u
    ∙ ap (λ h. matches h c.self.inside.text.items c.args.text.now) (sym c.in-ILike.is)
    ∙ ap (λ (w : PatternValue). matches w.how w.text c.args.text.now) c.self.view_is
