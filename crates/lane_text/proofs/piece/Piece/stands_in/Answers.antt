use Rattle.std.proofs.Common.{sym, ap, ◌∙◌}
use Rattle.eval_meaning.specs.Matching.{stands_in}
use Rattle.lane_text.proofs.Parts.{contains_none, contains_some}
use Rattle.lane_text.proofs.piece.Piece.stands_in.Goals as goal

pub returns-in-None : goal.returns-in-None
returns-in-None c = sym (contains_none c.args.text.now c.self.inside.finder c.in-None.ensures) ∙ ap (λ p. stands_in p c.args.text.now) c.self.view_is

pub returns-in-Some : goal.returns-in-Some
returns-in-Some c =
    let found = c.in-Some.ensures in
    sym (contains_some c.args.text.now c.self.inside.finder _ found.1) ∙ ap (λ p. stands_in p c.args.text.now) c.self.view_is
