use Rattle.std.proofs.Common.{◌+◌, Some, length, subst, sym, ap, arith}
use Rattle.std.specs.Str.{chars}
use Rattle.lane_text.specs.Bytewise.{IsRest}
use Rattle.lane_text.specs.Pieces.{after_first}
use Rattle.lane_text.proofs.Search.{found_none, found_some}
use Rattle.lane_text.proofs.scan.first_by_search.Goals as goal

pub returns-in-None-clause-rest : goal.returns-in-None-clause-rest
returns-in-None-clause-rest c u = found_none c.args.finder.now c.requires.is_text c.requires.is_plain c.args.text.now u c.in-None.ensures

pub returns-in-Some-clause-within : goal.returns-in-Some-clause-within
returns-in-Some-clause-within c =
    let found = c.in-Some.ensures in
    let fits = found.1.fits in
    omega (arith, ap length c.needle.ensures)

pub returns-in-Some-clause-rest : goal.returns-in-Some-clause-rest
returns-in-Some-clause-rest c u =
    let found = c.in-Some.ensures in
    subst (λ p. IsRest c.args.text.now (after_first (chars c.args.finder.now) (chars c.args.text.now)) (Some (c.in-Some.at + length p))) (sym c.needle.ensures)
    (found_some c.args.finder.now c.requires.is_text c.requires.is_plain c.args.text.now u c.in-Some.at found.1 found.0.before)
