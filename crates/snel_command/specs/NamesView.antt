-- What the code's value of names says.
use Rattle.std.specs.Prelude.{ℕ, List, [], ◌∷◌}
use Rattle.snel_command.specs.declared.reporting.Names.{Names}
use Rattle.snel_command.specs.declared.reporting.Names.TheVariants.{None, One, All}

abbrev pub names_view : Names → List (List ℕ)
names_view None = []
names_view (One name) = name.now ∷ []
names_view (All names) = names.now
