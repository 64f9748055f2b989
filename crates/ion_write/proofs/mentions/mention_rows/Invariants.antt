use Rattle.std.proofs.Common.{◌≡◌, ◌++◌, drop}
use Rattle.std.specs.Prelude.{filter}
use Rattle.snel_values.specs.View.{views}
use Rattle.value_meaning.specs.Val.{vals}
use Rattle.write_meaning.specs.BlockTables.{item_names, item_texts, is_short}
use Rattle.ion_write.specs.Mentions.{shown}
use Rattle.ion_write.proofs.mentions.mention_rows.Given as goal

abbrev pub invariant-loop-row : goal.invariant-loop-row
invariant-loop-row l = record {
  names : shown l.names.items ++ item_names (vals (views (drop l.row-index l.rows))) ≡ shown l.fn.names.items ++ item_names (vals (views l.rows));
  texts : shown l.texts.items ++ filter is_short (item_texts (vals (views (drop l.row-index l.rows)))) ≡ shown l.fn.texts.items ++ filter is_short (item_texts (vals (views l.rows)));
}
