-- Big endian numbers at a place of a list of bytes: what is spelled is read, and what is read is spelled.
use Rattle.std.proofs.Common.{◌≡◌, ℕ, ◌+◌, ◌^◌, ◌<◌, ◌≤◌, List, ◌++◌, length, take, drop, get_or, refl, sym, ap, ◌∙◌, arith, length-drop}
use Rattle.std.specs.Int.{to_be_bytes, from_be_bytes, w16, w32, w64}
use Rattle.std.proofs.lemmas.Nat.{be_bytes_2, be_bytes_4, be_bytes_8, from_be_bytes-to_be_bytes_2, from_be_bytes-to_be_bytes_4, from_be_bytes-to_be_bytes_8}
use Rattle.std.proofs.lemmas.List.{drop-drop, take-append-drop, length-take, length-take-le, get_or-take, get_or-drop, get_or_past}
use Rattle.std.proofs.Math.Seq.{drop-append_seam}
use Rattle.std.specs.Prelude.{◌⊎◌}
use Rattle.std.proofs.Common.{inl, inr}
use Rattle.file_meaning.specs.Reading.{AreBytes, u16_at, u32_at, u64_at}

-- what stands behind a part
pub behind : (k at : ℕ) (bytes front more : List ℕ) → drop at bytes ≡ front ++ more → length front ≡ k → drop (at + k) bytes ≡ more
behind k at bytes front more is long =
    sym (drop-drop k at bytes) ∙ ap (drop k) is ∙ ap (λ n. drop n (front ++ more)) (sym long) ∙ drop-append_seam front more

-- a part of bytes is bytes
pub are_bytes_of : (bytes : List ℕ) (at n : ℕ) → AreBytes bytes → AreBytes (take n (drop at bytes))
are_bytes_of bytes at n all = λ i. elim (sides i) [ inl low ↦ below i low | inr high ↦ past i high ]
  where
    sides : (i : ℕ) → (i < n) ⊎ (n ≤ i)
    sides i = grind arith

    below : (i : ℕ) → i < n → get_or (take n (drop at bytes)) i 0 < 256
    below i low = rw (get_or-take n (drop at bytes) i 0 low, get_or-drop at bytes i 0) (all (at + i))

    past : (i : ℕ) → n ≤ i → get_or (take n (drop at bytes)) i 0 < 256
    past i high =
        let short : length (take n (drop at bytes)) ≤ i = omega (arith, length-take n (drop at bytes)) in
        rw (get_or_past (take n (drop at bytes)) i 0 short) (omega arith)

pub are_bytes_behind : (bytes : List ℕ) (at : ℕ) → AreBytes bytes → AreBytes (drop at bytes)
are_bytes_behind bytes at all = λ i. rw (get_or-drop at bytes i 0) (all (at + i))

pub u16_reads : (at n : ℕ) (bytes more : List ℕ) → n < 2 ^ 16 → drop at bytes ≡ to_be_bytes w16 n ++ more → u16_at at bytes ≡ n
unfolding u16_at
u16_reads at n bytes more small is =
    ap (λ (l : List ℕ). from_be_bytes w16 (take 2 l)) is ∙ from_be_bytes-to_be_bytes_2 n small

pub u32_reads : (at n : ℕ) (bytes more : List ℕ) → n < 2 ^ 32 → drop at bytes ≡ to_be_bytes w32 n ++ more → u32_at at bytes ≡ n
unfolding u32_at
u32_reads at n bytes more small is =
    ap (λ (l : List ℕ). from_be_bytes w32 (take 4 l)) is ∙ from_be_bytes-to_be_bytes_4 n small

pub u64_reads : (at n : ℕ) (bytes more : List ℕ) → n < 2 ^ 64 → drop at bytes ≡ to_be_bytes w64 n ++ more → u64_at at bytes ≡ n
unfolding u64_at
u64_reads at n bytes more small is =
    ap (λ (l : List ℕ). from_be_bytes w64 (take 8 l)) is ∙ from_be_bytes-to_be_bytes_8 n small

-- a part that is known, and what follows it
cut_at : (k at end : ℕ) (bytes front : List ℕ) → at + k ≡ end → front ≡ take k (drop at bytes) → drop at bytes ≡ front ++ drop end bytes
cut_at k at end bytes front ends is =
    sym (take-append-drop k (drop at bytes)) ∙ ap (λ (l : List ℕ). l ++ drop k (drop at bytes)) (sym is) ∙ ap (λ (l : List ℕ). front ++ l) (drop-drop k at bytes ∙ ap (λ n. drop n bytes) ends)

part_long : (k at end : ℕ) (bytes : List ℕ) → at + k ≡ end → end ≤ length bytes → length (take k (drop at bytes)) ≡ k
part_long k at end bytes ends fits = length-take-le k (drop at bytes) (omega (arith, length-drop at bytes))

pub u16_spells : (at end : ℕ) (bytes : List ℕ) → AreBytes bytes → at + 2 ≡ end → end ≤ length bytes → drop at bytes ≡ to_be_bytes w16 (u16_at at bytes) ++ drop end bytes
unfolding u16_at
u16_spells at end bytes all ends fits =
    let n = from_be_bytes w16 (take 2 (drop at bytes)) in
    cut_at 2 at end bytes (to_be_bytes w16 n) ends
    (be_bytes_2 (take 2 (drop at bytes)) n (part_long 2 at end bytes ends fits) (are_bytes_of bytes at 2 all) refl)

pub u32_spells : (at end : ℕ) (bytes : List ℕ) → AreBytes bytes → at + 4 ≡ end → end ≤ length bytes → drop at bytes ≡ to_be_bytes w32 (u32_at at bytes) ++ drop end bytes
unfolding u32_at
u32_spells at end bytes all ends fits =
    let n = from_be_bytes w32 (take 4 (drop at bytes)) in
    cut_at 4 at end bytes (to_be_bytes w32 n) ends
    (be_bytes_4 (take 4 (drop at bytes)) n (part_long 4 at end bytes ends fits) (are_bytes_of bytes at 4 all) refl)

pub u64_spells : (at end : ℕ) (bytes : List ℕ) → AreBytes bytes → at + 8 ≡ end → end ≤ length bytes → drop at bytes ≡ to_be_bytes w64 (u64_at at bytes) ++ drop end bytes
unfolding u64_at
u64_spells at end bytes all ends fits =
    let n = from_be_bytes w64 (take 8 (drop at bytes)) in
    cut_at 8 at end bytes (to_be_bytes w64 n) ends
    (be_bytes_8 (take 8 (drop at bytes)) n (part_long 8 at end bytes ends fits) (are_bytes_of bytes at 8 all) refl)

-- a number of eight bytes fits 64 bits
pub u64_small : (at : ℕ) (bytes : List ℕ) → AreBytes bytes → u64_at at bytes < 2 ^ 64
unfolding u64_at
u64_small at bytes all =
    let part : AreBytes (take 8 (drop at bytes)) = are_bytes_of bytes at 8 all in
    omega (arith, part 0, part 1, part 2, part 3, part 4, part 5, part 6, part 7)
