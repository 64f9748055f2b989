use Rattle.std.proofs.Common.{drop, get_or, subst, sym, ◌∙◌}
use Rattle.std.specs.Str.{chars}
use Rattle.std.proofs.lemmas.List.{drop-drop}
use Rattle.lane_text.specs.Bytewise.{folded, Halts, Skips}
use Rattle.lane_text.proofs.Advance.{folded_rest}
use Rattle.lane_text.proofs.Skipping.{skips_to, not_empty}
use Rattle.lane_text.proofs.scan.next_place.Goals as goal

pub returns-clause-rest : goal.returns-clause-rest
returns-clause-rest c u =
    let whole = folded c.args.fold c.args.text.now in
    let n = c.place_of.result in
    let halts = subst (λ t. Halts (get_or c.args.piece.now 0 0) t n) (folded_rest c.args.fold c.args.text.now c.args.at) c.place_of.ensures in
    subst (Skips (chars c.args.piece.now) (drop c.args.at whole)) (drop-drop n c.args.at whole)
    (skips_to c.args.piece.now (drop c.args.at whole) n c.requires.is_text u (not_empty _ (sym c.is_empty.ensures ∙ c.if-is_empty.false)) c.if-piece-eq95.false halts)
