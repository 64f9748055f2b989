-- What a made row stands for.
use Rattle.std.specs.Prelude.{ℕ, List}
use Rattle.snel_values.specs.declared.made.MadeRow.{MadeRow}
use Rattle.value_meaning.specs.Val.{Val}

-- its keys and its line
abbrev pub row_view : MadeRow → List Val × List ℕ
row_view r = (r.keys, r.line)
