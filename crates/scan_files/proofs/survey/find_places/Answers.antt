use Rattle.std.proofs.Common.{◌≡◌, refl, ◌+◌, ◌*◌, ◌^◌, ◌<◌, ◌≤◌, ℕ, length, sym, ◌∙◌, arith}
use Rattle.query_tree.specs.Queries.{query_view}
use Rattle.scan_files.proofs.Surveyed.{surveyed_more, says_of_files, costs_more, costs_within, surveyed_all, named_in}
use Rattle.scan_files.proofs.survey.find_places.Goals as goal

pub returns-in-Err-clause-refused : goal.returns-in-Err-clause-refused
returns-in-Err-clause-refused g c =
    says_of_files _ _ (query_view c.args.query.now) c.args.names.now c.loop-number.number c.loop-number.fields c.loop-number.places.items c.loop-number.skipped _ c.loop-number.invariant.told c.loop-number.invariant.surveyed (sym c.in-Some.ensures)
    _ c.in-Err.fault refl c.in-Err.ensures.refused

pub returns-in-Err-clause-cost : goal.returns-in-Err-clause-cost
returns-in-Err-clause-cost g c =
    costs_within _ c.args.names.now (c.loop-number.number + 1) _ _ (costs_more _ _ c.args.names.now c.loop-number.number _ _ _ _ c.loop-number.invariant.told (sym c.in-Some.ensures) c.loop-number.invariant.cost c.index_of.ensures.cost)

pub returns-in-Err-add_file-clause-cost : goal.returns-in-Err-add_file-clause-cost
returns-in-Err-add_file-clause-cost g c =
    costs_within _ c.args.names.now (c.loop-number.number + 1) _ _ (costs_more _ _ c.args.names.now c.loop-number.number _ _ _ _ c.loop-number.invariant.told (sym c.in-Some.ensures) c.loop-number.invariant.cost c.index_of.ensures.cost)

pub loop-number-preserved : goal.loop-number-preserved
loop-number-preserved g c =
    let lt : c.loop-number.number < c.loop-number.number + 1 = omega arith in
    record {
      told = c.index_of.ensures.told ∙ c.loop-number.invariant.told;
      same_write_faults = c.index_of.ensures.same_write_faults ∙ c.loop-number.invariant.same_write_faults;
      faults = omega (arith, c.loop-number.invariant.faults, c.index_of.ensures.fault.later);
      missed = omega (arith, c.loop-number.invariant.missed, c.index_of.ensures.missed.later);
      later = omega (arith, c.loop-number.invariant.later, c.index_of.ensures.cost.later);
      cost = costs_more _ _ c.args.names.now c.loop-number.number _ _ _ _ c.loop-number.invariant.told (sym c.in-Some.ensures) c.loop-number.invariant.cost c.index_of.ensures.cost;
      few = omega (arith, c.loop-number.invariant.few, c.in-Ok-add_file.ensures.room);
      skips = omega (arith, c.loop-number.invariant.skips, c.in-Ok-add_file.ensures.few);
      named = named_in (query_view c.args.query.now) c.in-Ok.index.field (c.loop-number.number + 1) c.loop-number.number lt c.in-Ok.index.entries _ _ c.loop-number.invariant.named c.in-Ok-add_file.ensures.added;
      surveyed = surveyed_more _ _ (query_view c.args.query.now) c.args.names.now c.loop-number.number c.loop-number.fields c.loop-number.places.items c.loop-number.skipped _ c.loop-number.invariant.told c.loop-number.invariant.surveyed (sym c.in-Some.ensures)
          c.loop-number.invariant.named _ c.add_file.new.places.items _ _ c.in-Ok.index.field c.in-Ok.index.entries c.in-Ok.ensures.index c.in-Ok-add_file.ensures.field c.in-Ok-add_file.ensures.added c.in-Ok-add_file.ensures.skipped refl;
    }

pub returns-clause-surveyed : goal.returns-clause-surveyed
returns-clause-surveyed g c = surveyed_all _ (query_view c.args.query.now) c.args.names.now c.loop-number.number c.loop-number.fields c.loop-number.places.items c.loop-number.skipped (omega arith) c.loop-number.invariant.surveyed

pub returns-clause-cost : goal.returns-clause-cost
returns-clause-cost g c = costs_within _ c.args.names.now c.loop-number.number _ _ c.loop-number.invariant.cost
