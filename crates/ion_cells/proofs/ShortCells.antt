-- Whole numbers of at most seven bytes.
use Rattle.std.proofs.Common.{◌≡◌, ◌≢◌, ℕ, zero, suc, ◌-◌, ◌+◌, ◌/◌, ◌%◌, ◌<◌, ◌≤◌, Bool, true, false, List, [], ◌∷◌, length, take, drop, get_or, Option, Some, None, eqb, ltb, add-one, drop-cons, refl, sym, ap, ◌∙◌, arith, length-drop}
use Rattle.std.specs.Option.{option_map}
use Rattle.std.specs.Prelude.{is_some}
use Rattle.std.proofs.lemmas.Bool.Decides.{nat_tests}
use Rattle.std.proofs.lemmas.Bool.{le-ltb, ltb-false}
use Rattle.std.proofs.lemmas.List.{get_or-take, get_or-drop}
use Rattle.std.proofs.Math.ListN.{get_or-eq_default}
use Rattle.value_meaning.specs.Val.{Val}
use Rattle.block_meaning.specs.Tables.{Table}
use Rattle.block_meaning.specs.CellReading.{head_at, one_byte, cell_to, scalar}
use Rattle.block_meaning.proofs.CellReading.{one_none}
use Rattle.ion_cells.specs.Steps.{payload_to}
use Rattle.ion_cells.proofs.Checks.{ends, nothing, rest_of, payload_end, no_head, flat_payload}
use Rattle.ion_cells.proofs.ShortNumbers.{short_whole}

few_taken : (n : ℕ) (bytes : List ℕ) → length (take n bytes) ≤ n
few_taken zero bytes = omega arith
few_taken (suc n) [] = omega arith
few_taken (suc n) (b ∷ bs) = let few = few_taken n bs in omega arith

-- a part of bytes holds bytes
part_bound : (bytes : List ℕ) (n start : ℕ) → ((k : ℕ) → get_or bytes k 0 < 256) → (k : ℕ) → get_or (take n (drop start bytes)) k 0 < 256
part_bound bytes n start bound k = go (ltb k n) refl
  where
    go : (b : Bool) → ltb k n ≡ b → get_or (take n (drop start bytes)) k 0 < 256
    go true e =
        let less : k < n = grind (arith, nat_tests, e) in
        let same = get_or-take n (drop start bytes) k 0 less ∙ get_or-drop start bytes k 0 in
        omega (arith, same, bound (start + k))
    go false e =
        let more : n ≤ k = ltb-false _ _ e in
        let past = get_or-eq_default (take n (drop start bytes)) 0 {n = k} (omega (arith, few_taken n (drop start bytes))) in
        omega (arith, past)

module _ (table : Table) (room : ℕ) (bytes : List ℕ) (at : ℕ) (within : at < length bytes) (low : 32 ≤ get_or bytes at 0) (high : get_or bytes at 0 ≤ 39) where
  none : is_some (one_byte (get_or bytes at 0)) ≡ false
  none = ap is_some (one_none (get_or bytes at 0) (omega arith) low)

  here : drop at bytes ≡ get_or bytes at 0 ∷ drop (at + 1) bytes
  here = drop-cons bytes at 0 within ∙ (rw add-one refl)

  other : eqb (get_or bytes at 0) 209 ≡ false
  other = grind (arith, nat_tests, high)

  small : ltb (get_or bytes at 0 % 16) 14 ≡ true
  small = let m : get_or bytes at 0 % 16 < 14 = omega arith in grind (arith, nat_tests, m)

  kind : get_or bytes at 0 / 16 ≡ 2
  kind = omega arith

  pub whole_end : ((k : ℕ) → get_or bytes k 0 < 256) → at + 1 + get_or bytes at 0 % 16 ≤ length bytes → ends (drop (at + 1 + get_or bytes at 0 % 16) bytes) ≡ option_map rest_of (cell_to table room (drop at bytes))
  unfolding head_at scalar
  whole_end bound fits =
      let n = get_or bytes at 0 % 16 in
      let payload = take (at + 1 + n - (at + 1)) (drop (at + 1) bytes) in
      let room_more : ltb (length (drop (at + 1) bytes)) n ≡ false = le-ltb _ _ (omega (arith, length-drop (at + 1) bytes)) in
      let h : head_at (drop at bytes) ≡ Some (2, n, drop (at + 1) bytes) = rw (here, other, small, room_more, kind) refl in
      let few : length payload < 8 = omega (arith, few_taken (at + 1 + n - (at + 1)) (drop (at + 1) bytes)) in
      let is : is_some (payload_to table room 2 payload) ≡ true = ap is_some (flat_payload table room 2 payload (λ e. absurd (omega (arith, e))) (λ e. absurd (omega (arith, e)))) ∙ short_whole payload few (part_bound bytes (at + 1 + n - (at + 1)) (at + 1) bound) in
      payload_end table room bytes at within none 2 n (at + 1) h is

  pub whole_cut : length bytes < at + 1 + get_or bytes at 0 % 16 → nothing ≡ option_map rest_of (cell_to table room (drop at bytes))
  unfolding head_at
  whole_cut less =
      let room_less : ltb (length (drop (at + 1) bytes)) (get_or bytes at 0 % 16) ≡ true = let m : length (drop (at + 1) bytes) < get_or bytes at 0 % 16 = omega (arith, length-drop (at + 1) bytes) in grind (arith, nat_tests, m) in
      let h : head_at (drop at bytes) ≡ None = rw (here, other, small, room_less) refl in
      no_head table room bytes at within none h
