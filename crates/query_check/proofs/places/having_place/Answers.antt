use Rattle.std.proofs.Common.{◌∙◌, ap}
use Rattle.std.specs.Prelude.{slice_get}
use Rattle.query_tree.specs.Queries.{query_view}
use Rattle.check_meaning.specs.Place.{having}
use Rattle.query_check.specs.Placed.{having_places, order_places}
use Rattle.query_check.proofs.Placing.{alone_here, alone_later, alone_room, alone_none, alone_none_room}
use Rattle.query_check.proofs.places.having_place.Goals as goal

pub order_place-requires-clause-at : goal.order_place-requires-clause-at
unfolding having_places
order_place-requires-clause-at c = alone_room having (query_view c.args.query.now).having (order_places (query_view c.args.query.now)) c.in-Some.having c.args.at c.in-Some.is c.if-at-eq0.false c.requires.at

pub order_place-requires-in-None-clause-at : goal.order_place-requires-in-None-clause-at
unfolding having_places
order_place-requires-in-None-clause-at c = alone_none_room having (query_view c.args.query.now).having (order_places (query_view c.args.query.now)) c.args.at c.in-None.is c.requires.at

pub returns-then-at-eq0 : goal.returns-then-at-eq0
unfolding having_places
returns-then-at-eq0 c = ap (slice_get (having_places (query_view c.args.query.now))) c.if-at-eq0.true ∙ alone_here having (query_view c.args.query.now).having (order_places (query_view c.args.query.now)) c.in-Some.having c.in-Some.is

pub returns-else-at-eq0 : goal.returns-else-at-eq0
unfolding having_places
returns-else-at-eq0 c = alone_later having (query_view c.args.query.now).having (order_places (query_view c.args.query.now)) c.in-Some.having c.args.at c.in-Some.is c.if-at-eq0.false ∙ c.order_place.ensures

pub returns-in-None : goal.returns-in-None
unfolding having_places
returns-in-None c = alone_none having (query_view c.args.query.now).having (order_places (query_view c.args.query.now)) c.args.at c.in-None.is ∙ c.order_place-in-None.ensures
