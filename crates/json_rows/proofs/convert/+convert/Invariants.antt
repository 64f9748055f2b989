use Rattle.std.proofs.Common.{◌≡◌, ◌<◌, ◌^◌, ◌++◌, drop, option_map}
use Rattle.serde_json.specs.View.{items_view, members_view}
use Rattle.block_meaning.specs.Stored.{HaveStoredParts, PairsHaveStoredParts}
use Rattle.value_meaning.specs.Val.{vals, fields}
use Rattle.pack_meaning.specs.Rows.{item_fractions, member_fractions}
use Rattle.json_rows.specs.Counts.{raised}
use Rattle.json_rows.proofs.Converting.{values_from, pairs_left, Rises}
use Rattle.json_rows.proofs.convert.+convert.Given as goal

abbrev pub invariant-values_in-loop-item : goal.invariant-values_in-loop-item
invariant-values_in-loop-item l = record {
  made : l.values ++ values_from l.item-index l.item-items ≡ values_from 0 l.item-items;
  fits : l.dropped < 2 ^ 64;
  counted : raised l.dropped (item_fractions (items_view (drop l.item-index l.item-items))) ≡ raised l.fn.dropped (item_fractions (items_view l.item-items));
  stored : HaveStoredParts (vals l.values);
}

abbrev pub invariant-pairs_in-loop-name : goal.invariant-pairs_in-loop-name
invariant-pairs_in-loop-name l = record {
  rises : Rises l.pairs l.name-iterator;
  made : l.pairs ++ pairs_left (option_map (λ s. s.now) l.time_field) l.name-iterator ≡ pairs_left (option_map (λ s. s.now) l.time_field) l.members.entries;
  fits : l.dropped < 2 ^ 64;
  counted : raised l.dropped (member_fractions (members_view l.name-iterator)) ≡ raised l.fn.dropped (member_fractions (members_view l.members.entries));
  stored : PairsHaveStoredParts (fields l.pairs);
}
