use Rattle.std.proofs.Common.{◌∙◌, ap, sym}
use Rattle.std.specs.Option.{option_map}
use Rattle.query_tree.specs.Queries.{outs_view, query_view}
use Rattle.query_check.specs.Faults.{limit_view, place_view}
use Rattle.query_check.proofs.FaultOrder.{first_is_limit, first_is_nested, first_is_not_grouped, first_is_over_groups, first_is_same_name, first_is_no_such_order, no_fault, few_names, same_name_is}
use Rattle.query_check.proofs.verdict.first_fault.Goals as goal

pub returns-in-Some-clause-some : goal.returns-in-Some-clause-some
returns-in-Some-clause-some c = first_is_limit (query_view c.args.query.now) (limit_view c.in-Some.limit) (sym c.passed_limit.ensures ∙ ap (option_map limit_view) c.in-Some.is)

pub returns-in-Some-first_place-clause-some : goal.returns-in-Some-first_place-clause-some
returns-in-Some-first_place-clause-some c = first_is_nested (query_view c.args.query.now) (place_view c.in-Some-first_place.place) (sym c.passed_limit.ensures ∙ ap (option_map limit_view) c.in_default.is) (sym c.first_place.ensures ∙ ap (option_map place_view) c.in-Some-first_place.is)

pub returns-in-Some-not_grouped-clause-some : goal.returns-in-Some-not_grouped-clause-some
returns-in-Some-not_grouped-clause-some c = first_is_not_grouped (query_view c.args.query.now) (place_view c.in-Some-not_grouped.place) (sym c.passed_limit.ensures ∙ ap (option_map limit_view) c.in_default.is) (sym c.first_place.ensures ∙ ap (option_map place_view) c.in_default-first_place.is) (sym c.not_grouped.ensures ∙ ap (option_map place_view) c.in-Some-not_grouped.is)

pub returns-in-Some-over_groups-clause-some : goal.returns-in-Some-over_groups-clause-some
returns-in-Some-over_groups-clause-some c = first_is_over_groups (query_view c.args.query.now) (place_view c.in-Some-over_groups.place) (sym c.passed_limit.ensures ∙ ap (option_map limit_view) c.in_default.is) (sym c.first_place.ensures ∙ ap (option_map place_view) c.in_default-first_place.is) (sym c.not_grouped.ensures ∙ ap (option_map place_view) c.in_default-not_grouped.is) (sym c.over_groups.ensures ∙ ap (option_map place_view) c.in-Some-over_groups.is)

pub returns-in-Some-first_same_name-clause-some : goal.returns-in-Some-first_same_name-clause-some
returns-in-Some-first_same_name-clause-some c = first_is_same_name (query_view c.args.query.now) c.in-Some-first_same_name.output (sym c.passed_limit.ensures ∙ ap (option_map limit_view) c.in_default.is) (sym c.first_place.ensures ∙ ap (option_map place_view) c.in_default-first_place.is) (sym c.not_grouped.ensures ∙ ap (option_map place_view) c.in_default-not_grouped.is) (sym c.over_groups.ensures ∙ ap (option_map place_view) c.in_default-over_groups.is) (same_name_is (outs_view c.args.query.now.outputs) c.args.names.now c.first_same_name.result c.requires.names c.first_same_name.ensures ∙ c.in-Some-first_same_name.is)

pub returns-in-Some-first_no_output-clause-some : goal.returns-in-Some-first_no_output-clause-some
returns-in-Some-first_no_output-clause-some c = first_is_no_such_order (query_view c.args.query.now) c.in-Some-first_no_output.key (sym c.passed_limit.ensures ∙ ap (option_map limit_view) c.in_default.is) (sym c.first_place.ensures ∙ ap (option_map place_view) c.in_default-first_place.is) (sym c.not_grouped.ensures ∙ ap (option_map place_view) c.in_default-not_grouped.is) (sym c.over_groups.ensures ∙ ap (option_map place_view) c.in_default-over_groups.is) (same_name_is (outs_view c.args.query.now.outputs) c.args.names.now c.first_same_name.result c.requires.names c.first_same_name.ensures ∙ c.in_default-first_same_name.is) (sym c.first_no_output.ensures ∙ c.in-Some-first_no_output.is)

pub returns-in-None-clause-none : goal.returns-in-None-clause-none
returns-in-None-clause-none c = no_fault (query_view c.args.query.now) (sym c.passed_limit.ensures ∙ ap (option_map limit_view) c.in_default.is) (sym c.first_place.ensures ∙ ap (option_map place_view) c.in_default-first_place.is) (sym c.not_grouped.ensures ∙ ap (option_map place_view) c.in_default-not_grouped.is) (sym c.over_groups.ensures ∙ ap (option_map place_view) c.in_default-over_groups.is) (same_name_is (outs_view c.args.query.now.outputs) c.args.names.now c.first_same_name.result c.requires.names c.first_same_name.ensures ∙ c.in_default-first_same_name.is) (sym c.first_no_output.ensures ∙ c.in-None.is)

pub first_same_name-requires : goal.first_same_name-requires
first_same_name-requires c = few_names (query_view c.args.query.now) c.args.names.now c.requires.names c.requires.within
