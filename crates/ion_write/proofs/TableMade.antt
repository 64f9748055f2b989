-- The texts that are chosen are the table of the rows.
use Rattle.std.proofs.Common.{◌≡◌, ◌↔◌, ◌⊎◌, ℕ, ◌+◌, ◌≤◌, Bool, true, false, cond, nat_le, ◌&&◌, List, [], ◌∷◌, ◌++◌, length, bytes_eq, refl, sym, ap, subst, ◌∙◌, arith, inl, inr, true≢false}
use Rattle.std.specs.Prelude.{filter, count_by}
use Rattle.std.proofs.lemmas.Bool.Decides.{nat_tests}
use Rattle.std.proofs.lemmas.Slice.Eq.{bytes_eq-Decides}
use Rattle.value_meaning.specs.Val.{Vals}
use Rattle.block_meaning.specs.Tables.{Table}
use Rattle.write_meaning.specs.BlockTables.{item_names, item_texts, IsAmong, is_short, IsRepeated, IsTableOf}
use Rattle.write_meaning.proofs.Paying.{count, counts, counts_none, at_same}
use Rattle.write_meaning.proofs.Bounded.{either, in_first, in_second}
use Rattle.ion_write.specs.Mentions.{AreInOrder, AreRepeated}

count_is : (s t : List ℕ) (ts : List (List ℕ)) (b : Bool) → bytes_eq t s ≡ b → count s (t ∷ ts) ≡ at_same b 1 + count s ts
count_is s t ts b e = counts s t ts ∙ ap (λ c. at_same c 1 + count s ts) e

kept : (t : List ℕ) (ts : List (List ℕ)) → is_short t ≡ true → filter is_short (t ∷ ts) ≡ t ∷ filter is_short ts
kept t ts e = rw e refl

left_out : (t : List ℕ) (ts : List (List ℕ)) → is_short t ≡ false → filter is_short (t ∷ ts) ≡ filter is_short ts
left_out t ts e = rw e refl

-- texts that are no equals of s don't count
apart : (s t : List ℕ) (b : Bool) → is_short s ≡ b → is_short t ≡ b → (c : Bool) → bytes_eq t s ≡ c → Unit {0}
apart s t b h k c e = tt

differ : (s t : List ℕ) (c : Bool) → bytes_eq t s ≡ c → is_short s ≡ true → is_short t ≡ false → c ≡ false
differ s t false e h k = refl
differ s t true e h k = absurd (true≢false (sym h ∙ ap is_short (sym ((bytes_eq-Decides t s).0 e)) ∙ k))

differs : (s t : List ℕ) (c : Bool) → bytes_eq t s ≡ c → is_short s ≡ false → is_short t ≡ true → c ≡ false
differs s t false e h k = refl
differs s t true e h k = absurd (true≢false (sym k ∙ ap is_short ((bytes_eq-Decides t s).0 e) ∙ h))

short_count : (s : List ℕ) (ss : List (List ℕ)) → is_short s ≡ true → count s (filter is_short ss) ≡ count s ss
short_count s [] h = refl
short_count s (t ∷ ts) h = at (is_short t) refl (short_count s ts h)
  where
    at : (b : Bool) → is_short t ≡ b → count s (filter is_short ts) ≡ count s ts → count s (filter is_short (t ∷ ts)) ≡ count s (t ∷ ts)
    at true e rest = rw (kept t ts e) (omega (arith, counts s t (filter is_short ts), counts s t ts, rest))
    at false e rest =
        let none : bytes_eq t s ≡ false = differ s t (bytes_eq t s) refl h e in
        rw (left_out t ts e) (omega (arith, count_is s t ts false none, rest))

long_count : (s : List ℕ) (ss : List (List ℕ)) → is_short s ≡ false → count s (filter is_short ss) ≡ 0
long_count s [] h = counts_none s
long_count s (t ∷ ts) h = at (is_short t) refl (long_count s ts h)
  where
    at : (b : Bool) → is_short t ≡ b → count s (filter is_short ts) ≡ 0 → count s (filter is_short (t ∷ ts)) ≡ 0
    at true e rest =
        let none : bytes_eq t s ≡ false = differs s t (bytes_eq t s) refl h e in
        rw (kept t ts e) (omega (arith, count_is s t (filter is_short ts) false none, rest))
    at false e rest = rw (left_out t ts e) rest

ranged : (s : List ℕ) → is_short s ≡ true → (3 ≤ length s) × (length s ≤ 32)
ranged s e = (grind (arith, nat_tests), grind (arith, nat_tests))

in_range : (s : List ℕ) → 3 ≤ length s → length s ≤ 32 → is_short s ≡ true
in_range s h k = grind (arith, nat_tests)

is_repeated : (rows : Vals) (s : List ℕ) → 2 ≤ count s (filter is_short (item_texts rows)) → IsRepeated rows s
unfolding count
is_repeated rows s h = at (is_short s) refl
  where
    at : (b : Bool) → is_short s ≡ b → IsRepeated rows s
    at true e = record { low = (ranged s e).0; high = (ranged s e).1; twice = (let k = short_count s (item_texts rows) e in rw k at h) }
    at false e = absurd (omega (arith, h, long_count s (item_texts rows) e))

repeated_is : (rows : Vals) (s : List ℕ) → IsRepeated rows s → 2 ≤ count s (filter is_short (item_texts rows))
unfolding count
repeated_is rows s h = let k = short_count s (item_texts rows) (in_range s h.low h.high) in rw k h.twice

repeated_each : (texts twice : List (List ℕ)) → AreRepeated texts twice → (s : List ℕ) → IsAmong s twice ↔ (2 ≤ count s texts)
unfolding count
repeated_each texts twice h s = h.each s

-- How the table is made: the names in order, the texts that stand twice in order, and both in order.
pub record IsMade (rows : Vals) (table : Table) : Type 0 where
  pub names : List (List ℕ)
  pub first : List (List ℕ)
  pub texts : List (List ℕ)
  pub twice : List (List ℕ)
  pub second : List (List ℕ)
  pub joined : List (List ℕ)
  pub names_are : names ≡ item_names rows
  pub texts_are : texts ≡ filter is_short (item_texts rows)
  pub names_ordered : AreInOrder names first
  pub repeated : AreRepeated texts twice
  pub twice_ordered : AreInOrder twice second
  pub joined_are : joined ≡ first ++ second
  pub ordered : AreInOrder joined table

module _ (rows : Vals) (table : Table) (m : IsMade rows table) (s : List ℕ) where
  from_first : IsAmong s m.first → IsAmong s (item_names rows)
  from_first h = subst (IsAmong s) m.names_are ((m.names_ordered.each s).0 h)

  to_first : IsAmong s (item_names rows) → IsAmong s m.first
  to_first h = (m.names_ordered.each s).1 (subst (IsAmong s) (sym m.names_are) h)

  from_second : IsAmong s m.second → IsRepeated rows s
  from_second h =
      let k : 2 ≤ count s m.texts = (repeated_each m.texts m.twice m.repeated s).0 ((m.twice_ordered.each s).0 h) in
      is_repeated rows s (subst (λ ts. 2 ≤ count s ts) m.texts_are k)

  to_second : IsRepeated rows s → IsAmong s m.second
  to_second h =
      (m.twice_ordered.each s).1 ((repeated_each m.texts m.twice m.repeated s).1 (subst (λ ts. 2 ≤ count s ts) (sym m.texts_are) (repeated_is rows s h)))

  parted : IsAmong s m.first ⊎ IsAmong s m.second → IsAmong s (item_names rows) ⊎ IsRepeated rows s
  parted (inl h) = inl (from_first h)
  parted (inr h) = inr (from_second h)

  together : IsAmong s (item_names rows) ⊎ IsRepeated rows s → IsAmong s (m.first ++ m.second)
  together (inl h) = in_first m.first m.second s (to_first h)
  together (inr h) = in_second m.first m.second s (to_second h)

  there : IsAmong s table ↔ (IsAmong s (item_names rows) ⊎ IsRepeated rows s)
  there = (
    λ h. parted (either m.first m.second s (subst (IsAmong s) m.joined_are ((m.ordered.each s).0 h))),
    λ h. (m.ordered.each s).1 (subst (IsAmong s) (sym m.joined_are) (together h)),
  )

pub table_made : (rows : Vals) (table : Table) → IsMade rows table → IsTableOf rows table
table_made rows table m = record { rise = m.ordered.rise; each = λ s. there rows table m s }
