-- What is read of the tokens from a place on.
use Rattle.std.specs.Prelude.{◌≡◌, ℕ, List, Option, Result, drop}
use Rattle.std.specs.Option.{option_map}
use Rattle.query_meaning.specs.Tokens.{Toks}
use Rattle.sql_words.specs.declared.fault.ParseFault.{ParseFault}
use Rattle.sql_words.specs.declared.look.Look.{Look}
use Rattle.sql_words.specs.Gives.{Gives}
use Rattle.sql_words.specs.Seen.{toks}

-- what was answered, seen by view, and the place behind it are what the reader gives
abbrev pub ReadsAs : {X Y : Type 0} → (X → Y) → List Look → ℕ → Result (X × ℕ) ParseFault → (Toks → Option (Y × Toks)) → Type 0
ReadsAs view looks at answer read = Gives (λ x. (view x.0, drop x.1 (toks looks))) answer (read (drop at (toks looks)))

-- what was answered and the place behind it are what the reader gives
abbrev pub ReadsAt : {X : Type 0} → List Look → ℕ → Result (X × ℕ) ParseFault → (Toks → Option (X × Toks)) → Type 0
ReadsAt looks at answer read = Gives (λ x. (x.0, drop x.1 (toks looks))) answer (read (drop at (toks looks)))

-- the place that was answered is that of the tokens that are left
abbrev pub PassesAt : List Look → ℕ → Result ℕ ParseFault → (Toks → Option Toks) → Type 0
PassesAt looks at answer pass = Gives (λ n. drop n (toks looks)) answer (pass (drop at (toks looks)))

-- the same where what is sought may be absent, which is no fault
abbrev pub FindsAt : {X : Type 0} → List Look → ℕ → Option (X × ℕ) → (Toks → Option (X × Toks)) → Type 0
FindsAt looks at answer read = option_map (λ x. (x.0, drop x.1 (toks looks))) answer ≡ read (drop at (toks looks))

abbrev pub MayPassAt : List Look → ℕ → Option ℕ → (Toks → Option Toks) → Type 0
MayPassAt looks at answer pass = option_map (λ n. drop n (toks looks)) answer ≡ pass (drop at (toks looks))
