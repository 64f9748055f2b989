-- Putting texts into their places keeps a table rising, and adds just these texts.
use Rattle.std.proofs.Common.{◌≡◌, ◌↔◌, ◌⊎◌, inl, inr, ℕ, List, [], ◌∷◌, Ordering, Less, Equal, Greater, nat_cmp, bytes_eq, Bool, true, false, refl, sym, ap, subst, ◌∙◌}
use Rattle.std.proofs.lemmas.Cmp.{nat_list_cmp_total}
use Rattle.std.proofs.lemmas.Map.Text.{is_eq-slice_cmp}
use Rattle.std.proofs.lemmas.Slice.Eq.{bytes_eq-Decides}
use Rattle.std.specs.Cmp.Lexicographic.{slice_cmp}
use Rattle.std.specs.Ordering.{ordering_reverse, is_eq}
use Rattle.value_meaning.specs.Pairs.{IsBelow}
use Rattle.block_meaning.specs.Tables.{Table, TextsRise}
use Rattle.write_meaning.specs.BlockTables.{IsAmong, placed, placed_all}
use Rattle.write_meaning.specs.Laws.{PlacingIsExact}
use Rattle.write_meaning.proofs.Numbering.{tail_rises}

equal_is : (s t : List ℕ) → slice_cmp nat_cmp s t ≡ Equal → s ≡ t
equal_is s t e = (bytes_eq-Decides s t).0 (sym (is_eq-slice_cmp s t) ∙ ap is_eq e)

greater_is : (s t : List ℕ) → slice_cmp nat_cmp s t ≡ Greater → IsBelow t s
greater_is s t e = nat_list_cmp_total.antisymm t s ∙ ap ordering_reverse e

first_placed : (s t : List ℕ) (ts : Table) → slice_cmp nat_cmp s t ≡ Less → placed s (t ∷ ts) ≡ s ∷ t ∷ ts
first_placed s t ts e = rw e refl

there_already : (s t : List ℕ) (ts : Table) → slice_cmp nat_cmp s t ≡ Equal → placed s (t ∷ ts) ≡ t ∷ ts
there_already s t ts e = rw e refl

placed_later : (s t : List ℕ) (ts : Table) → slice_cmp nat_cmp s t ≡ Greater → placed s (t ∷ ts) ≡ t ∷ placed s ts
placed_later s t ts e = rw e refl

BelowHead : List ℕ → Table → Type 0
BelowHead t [] = Unit {0}
BelowHead t (u ∷ us) = IsBelow t u

joined : (t : List ℕ) (ts : Table) → BelowHead t ts → TextsRise ts → TextsRise (t ∷ ts)
unfolding BelowHead
joined t [] h r = tt
joined t (u ∷ us) h r = (h, r)

head_of : (t : List ℕ) (ts : Table) → TextsRise (t ∷ ts) → BelowHead t ts
unfolding BelowHead
head_of t [] r = tt
head_of t (u ∷ us) r = r.0

head_placed : (t s : List ℕ) (ts : Table) → BelowHead t ts → IsBelow t s → BelowHead t (placed s ts)
unfolding BelowHead
head_placed t s [] h k = k
head_placed t s (u ∷ us) h k = at (slice_cmp nat_cmp s u) refl
  where
    at : (o : Ordering) → slice_cmp nat_cmp s u ≡ o → BelowHead t (placed s (u ∷ us))
    at Less e = rw e k
    at Equal e = rw e h
    at Greater e = rw e h

rises : (s : List ℕ) (table : Table) → TextsRise table → TextsRise (placed s table)
rises s [] r = tt
rises s (t ∷ ts) r = at (slice_cmp nat_cmp s t) refl (rises s ts (tail_rises t ts r))
  where
    at : (o : Ordering) → slice_cmp nat_cmp s t ≡ o → TextsRise (placed s ts) → TextsRise (placed s (t ∷ ts))
    at Less e later = subst TextsRise (sym (first_placed s t ts e)) (e, r)
    at Equal e later = subst TextsRise (sym (there_already s t ts e)) r
    at Greater e later = subst TextsRise (sym (placed_later s t ts e)) (joined t (placed s ts) (head_placed t s ts (head_of t ts r) (greater_is s t e)) later)

has : (q s : List ℕ) (table : Table) → IsAmong q (placed s table) ↔ IsAmong q (s ∷ table)
has q s [] = (λ h. h, λ h. h)
has q s (t ∷ ts) = at (slice_cmp nat_cmp s t) refl (has q s ts)
  where
    swap : IsAmong q (s ∷ ts) → IsAmong q (s ∷ t ∷ ts)
    swap (inl e) = inl e
    swap (inr h) = inr (inr h)

    forth : (IsAmong q (placed s ts) → IsAmong q (s ∷ ts)) → IsAmong q (t ∷ placed s ts) → IsAmong q (s ∷ t ∷ ts)
    forth f (inl e) = inr (inl e)
    forth f (inr h) = swap (f h)

    back : (IsAmong q (s ∷ ts) → IsAmong q (placed s ts)) → IsAmong q (s ∷ t ∷ ts) → IsAmong q (t ∷ placed s ts)
    back f (inl e) = inr (f (inl e))
    back f (inr (inl e)) = inl e
    back f (inr (inr h)) = inr (f (inr h))

    once : s ≡ t → IsAmong q (s ∷ t ∷ ts) → IsAmong q (t ∷ ts)
    once same (inl e) = inl (e ∙ same)
    once same (inr h) = h

    at : (o : Ordering) → slice_cmp nat_cmp s t ≡ o → (IsAmong q (placed s ts) ↔ IsAmong q (s ∷ ts)) → IsAmong q (placed s (t ∷ ts)) ↔ IsAmong q (s ∷ t ∷ ts)
    at Less e later = subst (λ w. IsAmong q w ↔ IsAmong q (s ∷ t ∷ ts)) (sym (first_placed s t ts e)) (λ h. h, λ h. h)
    at Equal e later = subst (λ w. IsAmong q w ↔ IsAmong q (s ∷ t ∷ ts)) (sym (there_already s t ts e)) (λ h. inr h, once (equal_is s t e))
    at Greater e later = subst (λ w. IsAmong q w ↔ IsAmong q (s ∷ t ∷ ts)) (sym (placed_later s t ts e)) (forth later.0, back later.1)

all_rise : (ss : List (List ℕ)) → TextsRise (placed_all ss [])
all_rise [] = tt
all_rise (s ∷ ss) = rises s (placed_all ss []) (all_rise ss)

with_more : (q s : List ℕ) (a b : List (List ℕ)) → (IsAmong q a → IsAmong q b) → IsAmong q (s ∷ a) → IsAmong q (s ∷ b)
with_more q s a b f (inl e) = inl e
with_more q s a b f (inr h) = inr (f h)

all_there : (ss : List (List ℕ)) (q : List ℕ) → IsAmong q (placed_all ss []) ↔ IsAmong q ss
all_there [] q = (λ h. h, λ h. h)
all_there (s ∷ ss) q =
    let more = all_there ss q in
    let here = has q s (placed_all ss []) in
    (λ h. with_more q s (placed_all ss []) ss more.0 (here.0 h), λ h. here.1 (with_more q s ss (placed_all ss []) more.1 h))

pub placing_is_exact : PlacingIsExact
placing_is_exact ss q = (all_rise ss, all_there ss q)
