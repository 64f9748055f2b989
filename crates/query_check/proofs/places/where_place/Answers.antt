use Rattle.std.proofs.Common.{◌∙◌, ap}
use Rattle.std.specs.Prelude.{slice_get}
use Rattle.query_tree.specs.Queries.{query_view}
use Rattle.check_meaning.specs.Place.{where_test}
use Rattle.query_check.specs.Placed.{where_places, key_places}
use Rattle.query_check.proofs.Placing.{alone_here, alone_later, alone_room, alone_none, alone_none_room}
use Rattle.query_check.proofs.places.where_place.Goals as goal

pub key_place-requires-clause-at : goal.key_place-requires-clause-at
unfolding where_places
key_place-requires-clause-at c = alone_room where_test (query_view c.args.query.now).filter (key_places (query_view c.args.query.now)) c.in-Some.filter c.args.at c.in-Some.is c.if-at-eq0.false c.requires.at

pub key_place-requires-in-None-clause-at : goal.key_place-requires-in-None-clause-at
unfolding where_places
key_place-requires-in-None-clause-at c = alone_none_room where_test (query_view c.args.query.now).filter (key_places (query_view c.args.query.now)) c.args.at c.in-None.is c.requires.at

pub returns-then-at-eq0 : goal.returns-then-at-eq0
unfolding where_places
returns-then-at-eq0 c = ap (slice_get (where_places (query_view c.args.query.now))) c.if-at-eq0.true ∙ alone_here where_test (query_view c.args.query.now).filter (key_places (query_view c.args.query.now)) c.in-Some.filter c.in-Some.is

pub returns-else-at-eq0 : goal.returns-else-at-eq0
unfolding where_places
returns-else-at-eq0 c = alone_later where_test (query_view c.args.query.now).filter (key_places (query_view c.args.query.now)) c.in-Some.filter c.args.at c.in-Some.is c.if-at-eq0.false ∙ c.key_place.ensures

pub returns-in-None : goal.returns-in-None
unfolding where_places
returns-in-None c = alone_none where_test (query_view c.args.query.now).filter (key_places (query_view c.args.query.now)) c.args.at c.in-None.is ∙ c.key_place-in-None.ensures
