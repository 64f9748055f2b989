use Rattle.std.proofs.Common.{◌≡◌, ◌++◌, ◌*◌, suc, drop}
use Rattle.std.specs.Prelude.{filter}
use Rattle.snel_values.specs.View.{view, views}
use Rattle.value_meaning.specs.Val.{vals, fields, size, vals_size, fields_size}
use Rattle.write_meaning.specs.BlockTables.{item_names, pair_names, item_texts, pair_texts, is_short}
use Rattle.ion_write.specs.Mentions.{shown}
use Rattle.ion_write.proofs.mentions.+mention.Given as goal

abbrev pub decreases-mention : goal.decreases-mention
decreases-mention l = suc (2 * size (view l.value.now))

abbrev pub decreases-mention_items : goal.decreases-mention_items
decreases-mention_items l = 2 * vals_size (vals l.items.now)

abbrev pub decreases-mention_pairs : goal.decreases-mention_pairs
decreases-mention_pairs l = 2 * fields_size (fields l.pairs.now)

abbrev pub invariant-mention_items-loop-item : goal.invariant-mention_items-loop-item
invariant-mention_items-loop-item l = record {
  names : shown l.names.items ++ item_names (vals (views (drop l.item-index l.item-items))) ≡ shown l.fn.names.items ++ item_names (vals l.items);
  texts : shown l.texts.items ++ filter is_short (item_texts (vals (views (drop l.item-index l.item-items)))) ≡ shown l.fn.texts.items ++ filter is_short (item_texts (vals l.items));
}

abbrev pub invariant-mention_pairs-loop-at : goal.invariant-mention_pairs-loop-at
invariant-mention_pairs-loop-at l = record {
  names : shown l.names.items ++ pair_names (fields (drop l.at l.pairs)) ≡ shown l.fn.names.items ++ pair_names (fields l.pairs);
  texts : shown l.texts.items ++ filter is_short (pair_texts (fields (drop l.at l.pairs))) ≡ shown l.fn.texts.items ++ filter is_short (pair_texts (fields l.pairs));
}
