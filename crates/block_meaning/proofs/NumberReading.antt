-- Reading a number answers exactly the numbers that stand at the front.
use Rattle.std.proofs.Common.{◌≡◌, ℕ, zero, suc, ◌+◌, ◌-◌, ◌*◌, ◌<◌, ◌≤◌, true, false, List, [], ◌∷◌, ◌++◌, length, Some, ltb, refl, sym, ap, arith, inl, inr}
use Rattle.std.proofs.lemmas.Bool.{ltb-false, le-ltb}
use Rattle.std.proofs.lemmas.Bool.Decides.{nat_tests}
use Rattle.block_meaning.proofs.Answered.{chosen, some_is}
use Rattle.block_meaning.specs.Numbers.{Completes, IsVarUInt, var_uint_in, var_uint}

-- a front of the bytes that spells a number
pub record Front (so_far : ℕ) (bytes : List ℕ) (n : ℕ) (rest : List ℕ) (room : ℕ) : Type 0 where
  pub front : List ℕ
  pub parts : bytes ≡ front ++ rest
  pub spells : Completes so_far front n
  pub short : length front ≤ room

Completes-more : (so_far b : ℕ) (front : List ℕ) (n : ℕ) → b < 128 → Completes (so_far * 128 + b) front n → Completes so_far (b ∷ front) n
Completes-more so_far b [] n h r = absurd r
Completes-more so_far b (c ∷ cs) n h r = (h, r)

pub var_uint_takes : (room so_far : ℕ) (bytes : List ℕ) (n : ℕ) (rest : List ℕ) → var_uint_in room so_far bytes ≡ Some (n, rest) → Front so_far bytes n rest room
var_uint_takes zero so_far bytes n rest e = absurd cc
var_uint_takes (suc room) so_far [] n rest e = absurd cc
var_uint_takes (suc room) so_far (b ∷ bytes) n rest e =
    elim (chosen (ltb b 128) _ _ _ e) [
      | inl t ↦
          let below : b < 128 = grind (arith, nat_tests, t.0) in
          let f = var_uint_takes room (so_far * 128 + b) bytes n rest t.1 in
          record { front = b ∷ f.front; parts = ap (λ (t : List ℕ). b ∷ t) f.parts; spells = Completes-more so_far b f.front n below f.spells; short = omega arith }
      | inr t ↦
          let above : 128 ≤ b = ltb-false _ _ t.0 in
          let n-is : so_far * 128 + (b - 128) ≡ n = ap (λ (p : ℕ × List ℕ). p.0) (some_is _ _ t.1) in
          let rest-is : bytes ≡ rest = ap (λ (p : ℕ × List ℕ). p.1) (some_is _ _ t.1) in
          record { front = b ∷ []; parts = ap (λ (t : List ℕ). b ∷ t) rest-is; spells = (above, sym n-is); short = omega arith }
    ]

pub var_uint_again : (room so_far : ℕ) (front : List ℕ) (n : ℕ) (rest : List ℕ) → length front ≤ room → Completes so_far front n → var_uint_in room so_far (front ++ rest) ≡ Some (n, rest)
var_uint_again zero so_far [] n rest h r = absurd r
var_uint_again zero so_far (b ∷ bs) n rest h r = absurd (omega arith)
var_uint_again (suc room) so_far [] n rest h r = absurd r
var_uint_again (suc room) so_far (b ∷ []) n rest h r =
    let test : ltb b 128 ≡ false = le-ltb _ _ r.0 in
    rw (test, ← r.1) refl
var_uint_again (suc room) so_far (b ∷ c ∷ bs) n rest h r =
    let test : ltb b 128 ≡ true = grind (arith, nat_tests) in
    rw test (var_uint_again room (so_far * 128 + b) (c ∷ bs) n rest (omega arith) r.1)

pub var_uint-takes : (bytes : List ℕ) (n : ℕ) (rest : List ℕ) → var_uint bytes ≡ Some (n, rest) → (front : List ℕ) × IsVarUInt front n × (bytes ≡ front ++ rest)
unfolding var_uint
var_uint-takes bytes n rest e =
    let f = var_uint_takes 4 0 bytes n rest e in
    (f.front, record { short = f.short; spells = f.spells }, f.parts)

pub var_uint-again : (front : List ℕ) (n : ℕ) (rest : List ℕ) → IsVarUInt front n → var_uint (front ++ rest) ≡ Some (n, rest)
unfolding var_uint
var_uint-again front n rest h = var_uint_again 4 0 front n rest h.short h.spells
