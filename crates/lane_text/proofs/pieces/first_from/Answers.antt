use Rattle.std.proofs.Common.{◌+◌, IsUtf8, drop, Some, sym, ap, subst, ◌∙◌, refl, arith}
use Rattle.std.specs.Str.{chars}
use Rattle.lane_text.specs.Bytewise.{folded, IsRest}
use Rattle.lane_text.specs.Pieces.{after_first}
use Rattle.lane_text.proofs.Advance.{folded_rest, rest_length}
use Rattle.lane_text.proofs.CharSteps.{rest_from}
use Rattle.lane_text.proofs.Folding.{folded_length}
use Rattle.lane_text.proofs.pieces.first_from.Goals as goal

pub returns-in-None-clause-rest : goal.returns-in-None-clause-rest
returns-in-None-clause-rest c u =
    let same = sym (folded_rest c.args.fold c.args.text.now c.args.at) in
    ap (λ t. after_first (chars c.args.piece.now) (chars t)) same ∙ c.in-None.ensures.rest (subst IsUtf8 same u)

pub returns-in-Some-clause-within : goal.returns-in-Some-clause-within
returns-in-Some-clause-within c =
    let long = rest_length c.args.text.now c.args.at in
    let within = c.in-Some.ensures.within in
    omega arith

pub returns-in-Some-clause-rest : goal.returns-in-Some-clause-rest
returns-in-Some-clause-rest c u =
    let same = folded_rest c.args.fold c.args.text.now c.args.at in
    let long = folded_length c.args.fold c.args.text.now in
    rest_from (folded c.args.fold c.args.text.now) (after_first (chars c.args.piece.now) (chars (drop c.args.at (folded c.args.fold c.args.text.now))))
    c.args.at c.in-Some.count (c.args.at + c.in-Some.count) (omega arith) refl
    (subst (λ t. IsRest t (after_first (chars c.args.piece.now) (chars t)) (Some c.in-Some.count)) same (c.in-Some.ensures.rest (subst IsUtf8 (sym same) u)))
