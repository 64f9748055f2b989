use Rattle.std.proofs.Common.{◌∙◌, ap, length, arith, length-append, ◌++◌, ◌∷◌, [], Some}
use Rattle.scan_board.proofs.Places.{length-present, present-snoc, whole-snoc}
use Rattle.scan_board.specs.Places.{present}
use Rattle.scan_board.proofs.seats.Seats.put.Goals as goal

pub push_reserved-requires : goal.push_reserved-requires
push_reserved-requires c =
    let count = length-present c.self.inside.all.items c.self.invariant.whole in
    let same = ap length c.self.view_is in let few = c.requires in let room = c.self.invariant.room in omega arith

pub invariant_of-self : goal.invariant_of-self
invariant_of-self c =
    let count = length-present c.self.inside.all.items c.self.invariant.whole in
    let same = ap length c.self.view_is in let few = c.requires in
    let more = ap length c.push_reserved.ensures.items in
    record {
      room = c.push_reserved.ensures.capacity ∙ c.self.invariant.room;
      few = omega (arith, length-append c.self.inside.all.items (Some c.args.seat ∷ []));
      whole = rw c.push_reserved.ensures.items (whole-snoc c.self.inside.all.items c.args.seat c.self.invariant.whole);
    }

pub returns : goal.returns
returns c = ap present c.push_reserved.ensures.items ∙ present-snoc c.self.inside.all.items c.args.seat ∙ ap (λ xs. xs ++ c.args.seat ∷ []) c.self.view_is
