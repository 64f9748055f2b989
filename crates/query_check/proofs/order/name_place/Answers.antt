use Rattle.std.proofs.Common.{◌≡◌, sym, nat_eq, true, false}
use Rattle.std.specs.Str.{bytes_eq}
use Rattle.std.specs.Cmp.Lexicographic.{pointwise}
use Rattle.query_walk.proofs.Searching.{position_here, position_next}
use Rattle.query_check.proofs.order.name_place.Goals as goal

pub returns-then-eq : goal.returns-then-eq
returns-then-eq c =
    let test : pointwise nat_eq c.args.name.now c.name_at.result.now ≡ true = cc in
    sym (position_here (bytes_eq c.args.name.now) c.args.names.now c.loop-at.at _ c.name_at.result.now c.name_at.ensures test c.loop-at.invariant)

pub loop-at-preserved : goal.loop-at-preserved
loop-at-preserved c =
    let test : pointwise nat_eq c.args.name.now c.name_at.result.now ≡ false = cc in
    position_next (bytes_eq c.args.name.now) c.args.names.now c.loop-at.at _ c.name_at.result.now c.name_at.ensures test c.loop-at.invariant
