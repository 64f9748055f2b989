-- What a function of the parser answers.
use Rattle.std.specs.Prelude.{◌≡◌, Option, Some, None, Result, Ok, Err}
use Rattle.sql_words.specs.declared.fault.ParseFault.{ParseFault}
use Rattle.sql_words.specs.declared.fault.ParseFault.TheVariants.{NotAQuery, OutOfMemory}

-- nothing is read; out of memory may come at any time
abbrev pub Fails : {Y : Type 0} → ParseFault → Option Y → Type 0
Fails NotAQuery read = read ≡ None
Fails OutOfMemory read = Unit {0}

-- What a function answered, seen by view, is what reading gives.
abbrev pub Gives : {X Y : Type 0} → (X → Y) → Result X ParseFault → Option Y → Type 0
Gives view (Ok x) read = read ≡ Some (view x)
Gives view (Err e) read = Fails e read
