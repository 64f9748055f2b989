use Rattle.std.proofs.Common.{◌≡◌, ◌<◌, ◌≤◌, ◌^◌, ◌++◌, ◌∷◌, [], Some, None, option_map, string_bytes, refl, sym, ap, ◌∙◌, subst, arith, rules}
use Rattle.serde_json.specs.View.{view as data_of, items_view, members_view}
use Rattle.snel_values.specs.View.{view}
use Rattle.pack_meaning.specs.Rows.{value_in, timed_value, member_fractions}
use Rattle.json_rows.specs.Counts.{raised}
use Rattle.block_meaning.specs.Stored.{HasStoredParts}
use Rattle.json_rows.proofs.Stored.{stored_pair, stored_timed}
use Rattle.json_rows.proofs.Converting.{Entry, pairs_left, Rises, rises_first, rises_skipped, rises_pushed, items_done, items_counted, pairs_done, members_counted, pair_made, pair_left_out, member_counted}
use Rattle.json_rows.proofs.convert.+convert.Goals as goal

pub values_in-returns-clause-value : goal.values_in-returns-clause-value
values_in-returns-clause-value t c = items_done _ _ _ _ c.deref-item-items.ensures.value (omega arith) c.loop-item.invariant.made

pub values_in-returns-clause-counts : goal.values_in-returns-clause-counts
values_in-returns-clause-counts t c = items_counted _ _ _ _ _ c.deref-item-items.ensures.value (omega arith) c.loop-item.invariant.fits c.loop-item.invariant.counted

pub pairs_in-returns-clause-value : goal.pairs_in-returns-clause-value
pairs_in-returns-clause-value t c = pairs_done _ _ _ _ c.in-None.ensures.steps.0 c.loop-name.invariant.made

pub pairs_in-returns-clause-counts : goal.pairs_in-returns-clause-counts
pairs_in-returns-clause-counts t c = members_counted _ _ _ _ c.in-None.ensures.steps.0 c.loop-name.invariant.fits c.loop-name.invariant.counted

pub pairs_in-loop-name-init : goal.pairs_in-loop-name-init
pairs_in-loop-name-init t c =
    let first : c.into_iter-name-iterator.result ≡ c.args.members.now.entries = c.into_iter-name-iterator.ensures.into_iter_gives ∙ c.iter-name-items.ensures.rest in
    rw (first, c.new-pairs.ensures) (record {
      rises = rises_first _ c.iter-name-items.ensures.ordered;
      made = refl;
      fits = omega arith;
      counted = refl;
      stored = tt;
    })

pub pairs_in-loop-name-preserved-in_ok-push : goal.pairs_in-loop-name-preserved-in_ok-push
pairs_in-loop-name-preserved-in_ok-push t c =
    let l = c.loop-name in
    let e : Entry = (c.in-Some.name.now, c.in-Some.member.now) in
    let left = c.next.new.self in
    let step : l.name-iterator ≡ e ∷ left = c.in-Some.ensures.steps in
    let tf = option_map (λ s. s.now) c.args.time_field in
    let v = view c.in-Some-2.value in
    let found : value_in (data_of e.1) ≡ Some v = sym c.in_ok-value.ensures.value ∙ ap (option_map view) c.in-Some-2.is in
    let named : c.in_ok-of.field-0 ≡ string_bytes e.0 = c.in_ok-of.ensures ∙ c.as_str-in-Some-2.ensures.value in
    let w = view c.timed_value-value.result in
    let in_time : w ≡ timed_value tf (string_bytes e.0) v = c.timed_value-value.ensures ∙ ap (λ n. timed_value tf n v) c.as_str.ensures.value in
    let grown : c.push.new.self ≡ l.pairs ++ (string_bytes e.0, w) ∷ [] = rw (← named) c.in_ok-push.ensures.ok in
    let rises : Rises l.pairs (e ∷ left) = subst (Rises l.pairs) step l.invariant.rises in
    let made : HasStoredParts v = rw c.in-Some-2.is at c.in_ok-value.ensures.stored in
    let stored : HasStoredParts w = subst HasStoredParts (sym in_time) (stored_timed tf (string_bytes e.0) v made) in
    record {
      rises = rw grown (rises_pushed l.pairs e w left rises);
      made = pair_made tf l.pairs c.push.new.self e left v w _ found in_time grown (rw step at l.invariant.made);
      fits = omega (arith, c.in_ok-value.ensures.counts);
      counted = member_counted e left l.dropped c.value_in.new.dropped _ c.in_ok-value.ensures.counts (rw step at l.invariant.counted);
      stored = rw grown (stored_pair l.pairs (string_bytes e.0) w l.invariant.stored stored);
    }

pub pairs_in-loop-name-preserved : goal.pairs_in-loop-name-preserved
pairs_in-loop-name-preserved t c =
    let l = c.loop-name in
    let e : Entry = (c.in-Some.name.now, c.in-Some.member.now) in
    let left = c.next.new.self in
    let step : l.name-iterator ≡ e ∷ left = c.in-Some.ensures.steps in
    let tf = option_map (λ s. s.now) c.args.time_field in
    let none : c.in_ok-value.field-0 ≡ None = c.in_default.is in
    let found : value_in (data_of e.1) ≡ None = sym c.in_ok-value.ensures.value ∙ ap (option_map view) none in
    let rises : Rises l.pairs (e ∷ left) = subst (Rises l.pairs) step l.invariant.rises in
    record {
      rises = rises_skipped l.pairs e left rises;
      made = pair_left_out tf l.pairs e left _ found (rw step at l.invariant.made);
      fits = omega (arith, c.in_ok-value.ensures.counts);
      counted = member_counted e left l.dropped c.value_in.new.dropped _ c.in_ok-value.ensures.counts (rw step at l.invariant.counted);
      stored = l.invariant.stored;
    }
