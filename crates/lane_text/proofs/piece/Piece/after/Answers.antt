use Rattle.std.proofs.Common.{◌≡◌, ℕ, List, Bool, true, false, sym, subst, ◌∙◌}
use Rattle.std.specs.Str.{chars}
use Rattle.std.specs.Prelude.{Option}
use Rattle.lane_text.specs.Bytewise.{folded, IsRest}
use Rattle.lane_text.specs.Pieces.{after_piece}
use Rattle.lane_text.proofs.Folding.{unfolded, utf8_unfolded}
use Rattle.lane_text.proofs.piece.Piece.after.Goals as goal

by_fold : (fold : Bool) (piece text : List ℕ) (r : Option ℕ) → fold ≡ false → IsRest text (after_piece (chars piece) (chars text)) r
    → IsRest (folded fold text) (after_piece (chars piece) (chars (folded fold text))) r
by_fold true piece text r e h = absurd (cc)
by_fold false piece text r e h = subst (λ t. IsRest t (after_piece (chars piece) (chars t)) r) (sym (unfolded text)) h

pub returns-then-not-fold-clause-rest : goal.returns-then-not-fold-clause-rest
returns-then-not-fold-clause-rest c u =
    by_fold c.args.fold c.args.self.now c.args.text.now c.after_by_bytes.result c.if-not-fold.true
    (subst (λ p. IsRest c.args.text.now (after_piece (chars p) (chars c.args.text.now)) c.after_by_bytes.result) (c.needle.ensures ∙ c.self.view_is) (c.after_by_bytes.ensures.rest (utf8_unfolded c.args.fold c.args.text.now c.if-not-fold.true u)))
