-- The name and the entries behind it: what makes reading them answer none.
use Rattle.std.proofs.Common.{◌≡◌, ℕ, ◌+◌, ◌*◌, ◌<◌, ◌≤◌, Bool, true, false, cond, List, length, take, drop, Option, Some, None, refl, sym, ap, ◌∙◌, arith}
use Rattle.std.specs.Prelude.{◌==◌, ◌&&◌, nat_le}
use Rattle.std.specs.Option.{option_map}
use Rattle.std.specs.Str.{IsUtf8, is_utf8}
use Rattle.std.proofs.lemmas.Str.{IsUtf8-from_is_utf8, is_utf8-from_IsUtf8}
use Rattle.std.proofs.lemmas.Bool.Decides.{nat_tests}
use Rattle.file_meaning.specs.declared.TheConstants.{MOST_BLOCKS, MOST_NAME_BYTES}
use Rattle.file_meaning.specs.Files.{Entry}
use Rattle.file_meaning.specs.Reading.{u16_at, u32_at, has_magic, entries_at, named_at, index_in}

-- a name and entries, or none
abbrev Found : Type 0
Found = Option (List ℕ × List Entry)

none_where : (b : Bool) (o : Found) → b ≡ false → cond b o None ≡ None
none_where b o is = rw is refl

-- the sizes are wrong
pub wrong_sizes : (to n count : ℕ) (bytes : List ℕ) → (nat_le n MOST_NAME_BYTES && nat_le count MOST_BLOCKS && (length bytes == 10 + n + 32 * count)) ≡ false → named_at to n count bytes ≡ None
unfolding named_at
wrong_sizes to n count bytes wrong =
    let name = take n (drop 6 bytes) in
    none_where (nat_le n MOST_NAME_BYTES && nat_le count MOST_BLOCKS && (length bytes == 10 + n + 32 * count) && is_utf8 name) (option_map (λ es. (name, es)) (entries_at 0 to count (10 + n) bytes)) (rw wrong refl)

pub long_name : (to n count : ℕ) (bytes : List ℕ) → MOST_NAME_BYTES < n → named_at to n count bytes ≡ None
long_name to n count bytes h = wrong_sizes to n count bytes (grind (arith, nat_tests))

pub many_entries : (to n count : ℕ) (bytes : List ℕ) → MOST_BLOCKS < count → named_at to n count bytes ≡ None
many_entries to n count bytes h = wrong_sizes to n count bytes (grind (arith, nat_tests))

pub other_length : (to n count : ℕ) (bytes : List ℕ) → (length bytes ≡ 10 + n + 32 * count → ⊥) → named_at to n count bytes ≡ None
other_length to n count bytes h = wrong_sizes to n count bytes (grind (arith, nat_tests))

and_false : (b : Bool) → (b && false) ≡ false
and_false true = refl
and_false false = refl

not_utf8 : (bytes : List ℕ) (b : Bool) → is_utf8 bytes ≡ b → (IsUtf8 bytes → ⊥) → b ≡ false
not_utf8 bytes true is never = absurd (never (IsUtf8-from_is_utf8 bytes is))
not_utf8 bytes false is never = refl

pub no_text : (to n count : ℕ) (bytes : List ℕ) → (IsUtf8 (take n (drop 6 bytes)) → ⊥) → named_at to n count bytes ≡ None
unfolding named_at
no_text to n count bytes never =
    let name = take n (drop 6 bytes) in
    let sizes = nat_le n MOST_NAME_BYTES && nat_le count MOST_BLOCKS && (length bytes == 10 + n + 32 * count) in
    let wrong : is_utf8 name ≡ false = not_utf8 name (is_utf8 name) refl never in
    none_where (sizes && is_utf8 name) (option_map (λ es. (name, es)) (entries_at 0 to count (10 + n) bytes)) (ap (λ (b : Bool). sizes && b) wrong ∙ and_false sizes)

none_then : (b : Bool) → cond b None None ≡ (let none : Found = None in none)
none_then true = refl
none_then false = refl

pub no_entries : (to n count : ℕ) (bytes : List ℕ) → entries_at 0 to count (10 + n) bytes ≡ None → named_at to n count bytes ≡ None
unfolding named_at
no_entries to n count bytes none =
    let name = take n (drop 6 bytes) in
    rw none (none_then (nat_le n MOST_NAME_BYTES && nat_le count MOST_BLOCKS && (length bytes == 10 + n + 32 * count) && is_utf8 name))

-- the name and the entries are read
abbrev pub Finds : Found → List ℕ → List Entry → Type 0
Finds o f es = let found : Found = Some (f, es) in found ≡ o

pub named : (to n count : ℕ) (bytes f : List ℕ) (es : List Entry) → n ≤ MOST_NAME_BYTES → count ≤ MOST_BLOCKS → length bytes ≡ 10 + n + 32 * count → f ≡ take n (drop 6 bytes) → IsUtf8 f → Some es ≡ entries_at 0 to count (10 + n) bytes → Finds (named_at to n count bytes) f es
unfolding named_at
named to n count bytes f es short few long is text read =
    let sizes : (nat_le n MOST_NAME_BYTES && nat_le count MOST_BLOCKS && (length bytes == 10 + n + 32 * count)) ≡ true = grind (arith, nat_tests) in
    let utf8 : is_utf8 f ≡ true = is_utf8-from_IsUtf8 f text in
    rw (sizes, sym is, utf8, sym read) refl

pub no_magic : (to : ℕ) (bytes : List ℕ) → has_magic 0 bytes ≡ false → index_in to bytes ≡ None
unfolding index_in
no_magic to bytes other = rw other refl

pub behind_magic : (to : ℕ) (bytes : List ℕ) → has_magic 0 bytes ≡ true → index_in to bytes ≡ named_at to (u16_at 4 bytes) (u32_at (6 + u16_at 4 bytes) bytes) bytes
unfolding index_in
behind_magic to bytes magic = rw magic refl

pub too_short : (to : ℕ) (bytes : List ℕ) → length bytes < 10 + u16_at 4 bytes → index_in to bytes ≡ None
unfolding index_in
too_short to bytes short =
    let n = u16_at 4 bytes in
    let none = other_length to n (u32_at (6 + n) bytes) bytes (λ long. omega arith) in
    rw none (none_then (has_magic 0 bytes))
