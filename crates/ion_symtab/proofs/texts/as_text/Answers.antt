use Rattle.std.proofs.Common.{◌≡◌, ℕ, List, Bool, true, false, Some, None, cond, refl}
use Rattle.std.specs.Str.{is_utf8, IsUtf8}
use Rattle.std.proofs.lemmas.Str.{IsUtf8-from_is_utf8, is_utf8-from_IsUtf8}
use Rattle.ion_symtab.proofs.texts.as_text.Goals as goal

not_text : (bytes : List ℕ) (b : Bool) → is_utf8 bytes ≡ b → (IsUtf8 bytes → ⊥) → None ≡ cond b (Some bytes) None
not_text bytes true e h = absurd (h (IsUtf8-from_is_utf8 bytes e))
not_text bytes false e h = refl

pub returns-in-Ok : goal.returns-in-Ok
returns-in-Ok c = rw (is_utf8-from_IsUtf8 c.args.bytes.now c.in-Ok.ensures.1, c.in-Ok.ensures.0) refl

pub returns-in-Err : goal.returns-in-Err
returns-in-Err c = not_text c.args.bytes.now _ refl c.in-Err.ensures
