-- The table that is written is the table of the rows.
use Rattle.std.proofs.Common.{◌≡◌, ◌↔◌, ◌⊎◌, inl, inr, ℕ, ◌≤◌, Bool, true, false, ◌&&◌, nat_le, List, [], ◌∷◌, ◌++◌, length, bytes_eq, refl, sym, ap, ◌∙◌, arith, true≢false}
use Rattle.std.specs.Prelude.{count_by}
use Rattle.std.specs.List.{filter}
use Rattle.std.proofs.lemmas.Bool.Decides.{nat_tests}
use Rattle.value_meaning.specs.Val.{Vals, vals}
use Rattle.write_meaning.specs.BlockTables.{item_names, item_texts, IsAmong, is_short, IsRepeated, IsTableOf, placed_all}
use Rattle.write_meaning.proofs.Bounded.{either, in_first, in_second, counted}
use Rattle.write_meaning.proofs.Placing.{placing_is_exact}
use Rattle.pack_meaning.specs.Cuts.{Rows}
use Rattle.pack_meaning.specs.PackedFiles.{is_repeated, table_of}
use Rattle.pack_meaning.specs.Laws.{TablesAreOfRows}

kept : (p : List ℕ → Bool) (t : List ℕ) (ts : List (List ℕ)) → p t ≡ true → filter p (t ∷ ts) ≡ t ∷ filter p ts
kept p t ts e = rw e refl

left_out : (p : List ℕ → Bool) (t : List ℕ) (ts : List (List ℕ)) → p t ≡ false → filter p (t ∷ ts) ≡ filter p ts
left_out p t ts e = rw e refl

-- what is left of texts by a test is what passes it
passes : (p : List ℕ → Bool) (s : List ℕ) (ts : List (List ℕ)) → IsAmong s (filter p ts) → p s ≡ true
passes p s [] h = absurd h
passes p s (t ∷ ts) h = at (p t) refl (passes p s ts) h
  where
    at : (b : Bool) → p t ≡ b → (IsAmong s (filter p ts) → p s ≡ true) → IsAmong s (filter p (t ∷ ts)) → p s ≡ true
    at true e later k = first (rw (kept p t ts e) at k)
      where
        first : IsAmong s (t ∷ filter p ts) → p s ≡ true
        first (inl same) = ap p same ∙ e
        first (inr k) = later k
    at false e later k = later (rw (left_out p t ts e) at k)

-- and what passes it is left
stays : (p : List ℕ → Bool) (s : List ℕ) (ts : List (List ℕ)) → p s ≡ true → IsAmong s ts → IsAmong s (filter p ts)
stays p s [] e h = absurd h
stays p s (t ∷ ts) e h = at (p t) refl (stays p s ts e) h
  where
    at : (b : Bool) → p t ≡ b → (IsAmong s ts → IsAmong s (filter p ts)) → IsAmong s (t ∷ ts) → IsAmong s (filter p (t ∷ ts))
    at true f later (inl same) = rw (kept p t ts f) (inl same)
    at true f later (inr k) = rw (kept p t ts f) (inr (later k))
    at false f later (inl same) = absurd (true≢false (sym e ∙ ap p same ∙ f))
    at false f later (inr k) = rw (left_out p t ts f) (later k)

both : (a b : Bool) → (a && b) ≡ true → (a ≡ true) × (b ≡ true)
both true true e = (refl, refl)
both true false e = cc
both false b e = cc

repeated : (rows : Vals) (s : List ℕ) → is_repeated rows s ≡ true → IsRepeated rows s
repeated rows s e =
    let parts = both (is_short s) _ e in
    let range = both (nat_le 3 (length s)) _ parts.0 in
    record {
      low = grind (arith, nat_tests, range.0);
      high = grind (arith, nat_tests, range.1);
      twice = grind (arith, nat_tests, parts.1);
    }

all_true : (a b c : Bool) → a ≡ true → b ≡ true → c ≡ true → ((a && b) && c) ≡ true
all_true a b c e f g = rw (e, f, g) refl

is_so : (rows : Vals) (s : List ℕ) → IsRepeated rows s → is_repeated rows s ≡ true
is_so rows s h =
    all_true (nat_le 3 (length s)) (nat_le (length s) 32) _ (grind (arith, nat_tests, h.low)) (grind (arith, nat_tests, h.high)) (grind (arith, nat_tests, h.twice))

forth : (rows : Vals) (s : List ℕ) → IsAmong s (item_names rows ++ filter (is_repeated rows) (item_texts rows)) → IsAmong s (item_names rows) ⊎ IsRepeated rows s
forth rows s h = at (either (item_names rows) _ s h)
  where
    at : IsAmong s (item_names rows) ⊎ IsAmong s (filter (is_repeated rows) (item_texts rows)) → IsAmong s (item_names rows) ⊎ IsRepeated rows s
    at (inl k) = inl k
    at (inr k) = inr (repeated rows s (passes (is_repeated rows) s (item_texts rows) k))

back : (rows : Vals) (s : List ℕ) → IsAmong s (item_names rows) ⊎ IsRepeated rows s → IsAmong s (item_names rows ++ filter (is_repeated rows) (item_texts rows))
back rows s (inl k) = in_first (item_names rows) _ s k
back rows s (inr k) =
    let there : IsAmong s (item_texts rows) = counted s (item_texts rows) (omega (arith, k.twice)) in
    in_second (item_names rows) _ s (stays (is_repeated rows) s (item_texts rows) (is_so rows s k) there)

pub table_is_of : TablesAreOfRows
unfolding table_of
table_is_of rows =
    let ss = item_names (vals rows) ++ filter (is_repeated (vals rows)) (item_texts (vals rows)) in
    record {
      rise = (placing_is_exact ss []).0;
      each = λ s. (λ h. forth (vals rows) s ((placing_is_exact ss s).1.0 h), λ h. (placing_is_exact ss s).1.1 (back (vals rows) s h));
    }
