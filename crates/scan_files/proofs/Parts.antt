-- Parts of lists of places.
use Rattle.std.proofs.Common.{◌≡◌, ℕ, zero, suc, ◌+◌, ◌-◌, ◌*◌, ◌<◌, ◌≤◌, List, [], ◌∷◌, ◌++◌, length, take, drop, get_or, map, min, Option, Some, None, refl, sym, ap, ◌∙◌, subst, arith}
use Rattle.std.specs.Prelude.{slice_get, All, sum_by}
use Rattle.std.specs.Option.{ForSome}
use Rattle.std.proofs.lemmas.List.{take_all, take_rest, length-drop, length-take, length-map, get_or-take, get_or-drop, take-map, drop-map}
use Rattle.std.proofs.lemmas.List.Sums.{sum_by-cons, sum_by-append}
use Rattle.snel_device.specs.Contents.{Contents}
use Rattle.scan_meaning.specs.Blocks.{Place, Block}
use Rattle.scan_meaning.specs.Batches.{batch, front, size_of}
use Rattle.scan_meaning.proofs.Batches.{take_plus}
use Rattle.scan_files.specs.Places.{block_at, blocks_at, room_of}

pub to_end : (xs : List Place) (from to : ℕ) → to ≡ length xs → length xs - from < 64 → take (to - from) (drop from xs) ≡ take 64 (drop from xs)
to_end xs from to is short =
    let long = length-drop from xs in
    ap (λ (n : ℕ). take (n - from) (drop from xs)) is ∙ take_rest xs from ∙ sym (take_all 64 (drop from xs) (omega arith))

pub to_more : (xs : List Place) (from to : ℕ) → to ≡ from + 64 → take (to - from) (drop from xs) ≡ take 64 (drop from xs)
to_more xs from to is = let e : to - from ≡ 64 = omega arith in ap (λ (n : ℕ). take n (drop from xs)) e

-- what holds of each holds of each in a part
pub All_part : {X : Type 0} (P : X → Type 0) (n m : ℕ) (xs part : List X) → part ≡ take n (drop m xs) → All P xs → All P part
All_part {X} P n m xs part is all = subst (λ (l : List X). All P l) (sym is) (λ k d lt.
    let long : length (take n (drop m xs)) ≡ min n (length (drop m xs)) = length-take n (drop m xs) in
    let dropped : length (drop m xs) ≡ length xs - m = length-drop m xs in
    let at : get_or (take n (drop m xs)) k d ≡ get_or xs (m + k) d = get_or-take n (drop m xs) k d (omega arith) ∙ get_or-drop m xs k d in
    subst P (sym at) (all (m + k) d (omega arith)))

-- the blocks of a batch of places
pub batch_at : (files : Contents) (names fields : List (List ℕ)) (j : ℕ) (ps part : List Place) → part ≡ take 64 (drop (64 * j) ps) → blocks_at files names fields part ≡ batch j (blocks_at files names fields ps)
batch_at files names fields j ps part is =
    let f = block_at files names fields in
    ap (λ (l : List Place). map f l) is ∙ sym (take-map f 64 (drop (64 * j) ps)) ∙ ap (λ (l : List Block). take 64 l) (sym (drop-map f (64 * j) ps))

pub room_more : (j : ℕ) (ps part : List Place) → part ≡ take 64 (drop (64 * j) ps) → room_of (take (64 * (j + 1)) ps) ≡ room_of (take (64 * j) ps) + room_of part
room_more j ps part is =
    let e : 64 * (j + 1) ≡ 64 * j + 64 = omega arith in
    ap (λ (n : ℕ). room_of (take n ps)) e ∙ ap (λ (l : List Place). room_of l) (take_plus (64 * j) 64 ps)
    ∙ sum_by-append (λ p. p.entry.length) (take (64 * j) ps) (take 64 (drop (64 * j) ps))
    ∙ ap (λ (l : List Place). room_of (take (64 * j) ps) + room_of l) (sym is)

room_is : (files : Contents) (names fields : List (List ℕ)) (ps : List Place) → room_of ps ≡ size_of (blocks_at files names fields ps)
unfolding block_at
room_is files names fields [] = refl
room_is files names fields (p ∷ ps) =
    sum_by-cons (λ (x : Place). x.entry.length) p ps ∙ ap (λ (n : ℕ). p.entry.length + n) (room_is files names fields ps)
    ∙ sym (sum_by-cons (λ (b : Block). b.place.entry.length) (block_at files names fields p) (blocks_at files names fields ps))

-- the bytes of the blocks of the first so many batches
pub room_front : (files : Contents) (names fields : List (List ℕ)) (j : ℕ) (ps : List Place) → room_of (take (64 * j) ps) ≡ size_of (front j (blocks_at files names fields ps))
room_front files names fields j ps = room_is files names fields (take (64 * j) ps) ∙ ap (λ (l : List Block). size_of l) (sym (take-map (block_at files names fields) (64 * j) ps))
