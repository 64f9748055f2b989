-- Texts that rise are told by their members alone, and placing keeps them rising.
use Rattle.std.proofs.Common.{◌≡◌, ◌↔◌, ◌⊎◌, inl, inr, ℕ, List, [], ◌∷◌, Ordering, Less, Equal, Greater, nat_cmp, bytes_eq, Bool, true, false, refl, sym, ap, subst, ◌∙◌}
use Rattle.std.proofs.lemmas.Cmp.{nat_list_cmp_total}
use Rattle.std.proofs.lemmas.Map.Text.{is_eq-slice_cmp}
use Rattle.std.proofs.lemmas.Slice.Eq.{bytes_eq-Decides}
use Rattle.std.specs.Cmp.Lexicographic.{slice_cmp}
use Rattle.std.specs.Ordering.{ordering_reverse, match_ordering, is_eq}
use Rattle.value_meaning.specs.Val.{Vals}
use Rattle.value_meaning.specs.Pairs.{IsBelow}
use Rattle.block_meaning.specs.Tables.{Table, TextsRise}
use Rattle.write_meaning.specs.BlockTables.{IsAmong, IsTableOf, placed, placed_all}
use Rattle.write_meaning.specs.Laws.{OneTable}
use Rattle.write_meaning.proofs.Numbering.{below_trans, not_both, not_itself, tail_rises}

-- each text that follows is above the first
pub above_head : (t : List ℕ) (ts : Table) (s : List ℕ) → TextsRise (t ∷ ts) → IsAmong s ts → IsBelow t s
above_head t [] s r h = absurd h
above_head t (u ∷ ts) s r (inl e) = rw e r.0
above_head t (u ∷ ts) s r (inr h) = below_trans t u s r.0 (above_head u ts s r.1 h)

abbrev Same : Table → Table → Type 0
Same t u = (s : List ℕ) → IsAmong s t ↔ IsAmong s u

-- the first of one is the first of the other
heads : (t u : List ℕ) (ts us : Table) → TextsRise (t ∷ ts) → TextsRise (u ∷ us) → IsAmong t (u ∷ us) → IsAmong u (t ∷ ts) → t ≡ u
heads t u ts us r q (inl e) k = e
heads t u ts us r q (inr h) (inl e) = sym e
heads t u ts us r q (inr h) (inr k) = absurd (not_both u t (above_head u us t q h) (above_head t ts u r k))

later : (t : List ℕ) (ts us : Table) (s : List ℕ) → TextsRise (t ∷ ts) → IsAmong s ts → (IsAmong s (t ∷ ts) → IsAmong s (t ∷ us)) → IsAmong s us
later t ts us s r h f = at (f (inr h))
  where
    at : IsAmong s (t ∷ us) → IsAmong s us
    at (inl e) = absurd (not_itself t (let b : IsBelow t s = above_head t ts s r h in rw e at b))
    at (inr k) = k

same_tails : (t : List ℕ) (ts us : Table) → TextsRise (t ∷ ts) → TextsRise (t ∷ us) → Same (t ∷ ts) (t ∷ us) → Same ts us
same_tails t ts us r q m = λ s. (λ h. later t ts us s r h (m s).0, λ h. later t us ts s q h (m s).1)

one : (t u : Table) → TextsRise t → TextsRise u → Same t u → t ≡ u
one [] [] r q m = refl
one [] (u ∷ us) r q m = absurd ((m u).1 (inl refl))
one (t ∷ ts) [] r q m = absurd ((m t).0 (inl refl))
one (t ∷ ts) (u ∷ us) r q m =
    let first : t ≡ u = heads t u ts us r q ((m t).0 (inl refl)) ((m u).1 (inl refl)) in
    let q2 : TextsRise (t ∷ us) = subst (λ w. TextsRise (w ∷ us)) (sym first) q in
    let m2 : Same (t ∷ ts) (t ∷ us) = subst (λ w. Same (t ∷ ts) (w ∷ us)) (sym first) m in
    ap (λ ws. t ∷ ws) (one ts us (tail_rises t ts r) (tail_rises t us q2) (same_tails t ts us r q2 m2)) ∙ ap (λ w. w ∷ us) first

pub one_table : OneTable
one_table rows t u h k = one t u h.rise k.rise (λ s. (λ a. (k.each s).1 ((h.each s).0 a), λ a. (h.each s).1 ((k.each s).0 a)))
