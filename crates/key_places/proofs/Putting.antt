-- A number is put into a free place, and the others stay where they are found.
use Rattle.std.proofs.Common.{◌≡◌, ℕ, ◌<◌, ◌+◌, List, length, get_or, set, refl, sym, ap, subst, ◌∙◌, arith, ⊎_elim}
use Rattle.std.proofs.lemmas.Bool.{cases_eq}
use Rattle.std.proofs.lemmas.List.{length-set, get_or-set_same, get_or-set_other, get_or_default}
use Rattle.key_places.specs.declared.row.PlaceRow.{PlaceRow}
use Rattle.key_places.specs.Placed.{IsFull, Holds, IsPlaced, IsReached, row_at, tag_of}

module _ (rows : List PlaceRow) (at place tag number : ℕ) (row new : PlaceRow) (below : at < length rows) (is : row ≡ get_or rows at row) (within : place < 16) (free : get_or row.tags place 0 ≡ 0) (put : IsPlaced row place tag number new) where
  here : (k : ℕ) (r : PlaceRow) → k ≡ at → get_or rows k r ≡ row
  here k r e = ap (λ j. get_or rows j r) e ∙ get_or_default rows at r row below ∙ sym is

  -- a full row isn't the one with the free place
  full_stays : (k : ℕ) (r : PlaceRow) → IsFull (get_or rows k r) → get_or (set rows at new) k r ≡ get_or rows k r
  full_stays k r full =
      ⊎_elim
      (λ (e : k ≡ at). absurd (subst IsFull (here k r e) full place within free))
      (λ ne. get_or-set_other rows at k new r ne)
      (cases_eq k at)

  -- what a row held it holds, since the place was free
  holds_stays : (k : ℕ) (r : PlaceRow) (t n : ℕ) → (t ≡ 0 → ⊥) → Holds (get_or rows k r) t n → Holds (get_or (set rows at new) k r) t n
  holds_stays k r t n used h =
      ⊎_elim
      (λ (e : k ≡ at).
      let old : Holds row t n = subst (λ x. Holds x t n) (here k r e) h in
      let differs : old.place ≡ place → ⊥ = λ q. used (sym old.tagged ∙ ap (λ p. get_or row.tags p 0) q ∙ free) in
      let kept : Holds new t n = record { place = old.place; within = old.within; tagged = put.tags old.place differs ∙ old.tagged; numbered = put.numbers old.place differs ∙ old.numbered } in
      subst (λ x. Holds x t n) (sym (ap (λ j. get_or (set rows at new) j r) e ∙ get_or-set_same rows at new r below)) kept)
      (λ ne. subst (λ x. Holds x t n) (sym (get_or-set_other rows at k new r ne)) h)
      (cases_eq k at)

  pub others_stay : (h n : ℕ) → IsReached rows h n → IsReached (set rows at new) h n
  others_stay h n r =
      let long = length-set rows at new in
      record {
        step = r.step;
        within = subst (λ k. r.step < k) (sym long) r.within;
        full = λ t d early.
            let old = r.full t d early in
            subst (λ k. IsFull (get_or (set rows at new) (row_at h k t) d)) (sym long) (subst IsFull (sym (full_stays (row_at h (length rows) t) d old)) old);
        held = λ d. subst (λ k. Holds (get_or (set rows at new) (row_at h k r.step) d) (tag_of h) n) (sym long) (holds_stays (row_at h (length rows) r.step) d (tag_of h) n (λ e. omega arith) (r.held d));
      }

-- one hash more is found
pub one_more : (old new : List PlaceRow) (hashes : List ℕ) (i number hash : ℕ) → IsReached new hash number → i < length hashes → hash ≡ get_or hashes i hash → number ≡ i → ((h n : ℕ) → IsReached old h n → IsReached new h n)
    → ((j d : ℕ) → j < i → IsReached old (get_or hashes j d) j) → (j d : ℕ) → j < i + 1 → IsReached new (get_or hashes j d) j
one_more old new hashes i number hash now at is num others sofar j d b =
    ⊎_elim
    (λ (e : j ≡ i).
    let h : hash ≡ get_or hashes j d = is ∙ get_or_default hashes i hash d at ∙ ap (λ k. get_or hashes k d) (sym e) in
    subst (λ (z : ℕ × ℕ). IsReached new z.0 z.1) (λ k. (h k, (num ∙ sym e) k)) now)
    (λ ne. others (get_or hashes j d) j (sofar j d (omega arith)))
    (cases_eq j i)
