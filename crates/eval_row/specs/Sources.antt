-- What an expression is evaluated on, as the code has it: a row and an item, which is MISSING in a query of one source.
use Rattle.snel_values.specs.declared.value.Value.{Value}
use Rattle.snel_values.specs.View.{view}
use Rattle.eval_meaning.specs.Pair.{Pair}

abbrev pub pair_of : Value → Value → Pair
pair_of row item = record { row = view row; item = view item }
