-- Whether IS gives true.
use Rattle.std.specs.Prelude.{Bool}
use Rattle.value_meaning.specs.Val.{Val}
use Rattle.tree_meaning.specs.declared.IsWhat.{IsWhat}
use Rattle.tree_meaning.specs.declared.IsWhat.TheVariants as what
use Rattle.eval_meaning.specs.Logic.{is_null, is_missing, is_true, is_false}

abbrev pub is_so : IsWhat → Val → Bool
is_so what.Null v = is_null v
is_so what.Missing v = is_missing v
is_so what.True v = is_true v
is_so what.False v = is_false v
