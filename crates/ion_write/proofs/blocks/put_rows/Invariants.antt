use Rattle.std.proofs.Common.{◌≡◌, ◌++◌, drop}
use Rattle.snel_values.specs.View.{views}
use Rattle.value_meaning.specs.Val.{vals}
use Rattle.write_meaning.specs.Encoding.{encode_items}
use Rattle.ion_write.proofs.blocks.put_rows.Given as goal

abbrev pub invariant-loop-row : goal.invariant-loop-row
invariant-loop-row l =
    l.out.items ++ encode_items l.table (vals (views (drop l.row-index l.rows))) ≡ l.fn.out.items ++ encode_items l.table (vals (views l.rows))
