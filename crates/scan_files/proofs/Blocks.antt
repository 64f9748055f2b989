-- Blocks at their places in files that are told.
use Rattle.std.proofs.Common.{◌≡◌, ℕ, ◌+◌, ◌≤◌, List, [], length, take, drop, Option, Some, None, refl, sym, ap, ◌∙◌, subst, arith}
use Rattle.std.specs.Prelude.{slice_get, IsSomeAnd, unwrap_or}
use Rattle.std.specs.Option.{ForSome, option_and_then}
use Rattle.snel_device.specs.Contents.{Contents, IsWithin, HasAt}
use Rattle.scan_meaning.specs.Blocks.{Place, Block, block_of}
use Rattle.scan_files.specs.Places.{Held, field_at, block_held, file_at, block_at, IsPlaced}

-- the file with this number is that of its name
file_of : (files : Contents) (names : List (List ℕ)) (i : ℕ) (name : List ℕ) → slice_get names i ≡ Some name → file_at files names i ≡ files name
file_of files names i name at = ap (λ o. option_and_then files o) at

placed_at : (files : Contents) (names : List (List ℕ)) (p : Place) (name : List ℕ) → slice_get names p.file ≡ Some name → IsPlaced files names p → IsWithin files name p.entry.start p.entry.length
unfolding IsPlaced
placed_at files names p name at placed = subst (λ (o : Option (List ℕ)). IsSomeAnd o (λ bytes. p.entry.start + p.entry.length ≤ length bytes)) (file_of files names p.file name at) placed

-- the read lies within the file
pub within : (told : Option Contents) (names : List (List ℕ)) (p : Place) (name : List ℕ) (start n : ℕ) → slice_get names p.file ≡ Some name → start ≡ p.entry.start → n ≡ p.entry.length → ForSome told (λ files. IsPlaced files names p) → ForSome told (λ files. IsWithin files name start n)
within told names p name start n at s l placed = λ files is. subst (λ (x : ℕ). IsWithin files name x n) (sym s) (subst (λ (x : ℕ). IsWithin files name p.entry.start x) (sym l) (placed_at files names p name at (placed files is)))

holds : (o : Option (List ℕ)) (p : Place) (held : List ℕ) → length held ≡ p.entry.length → IsSomeAnd o (λ bytes. held ≡ take (length held) (drop p.entry.start bytes)) → held ≡ take p.entry.length (drop p.entry.start (unwrap_or o []))
holds None p held long has = absurd has
holds (Some bytes) p held long has = has ∙ ap (λ (n : ℕ). take n (drop p.entry.start bytes)) long

-- what was read is the block
pub is_block : (told before : Option Contents) (names : List (List ℕ)) (p : Place) (name held : List ℕ) (start : ℕ) → slice_get names p.file ≡ Some name → start ≡ p.entry.start → length held ≡ p.entry.length → before ≡ told → ForSome told (λ files. HasAt files name start held) → ForSome before (λ files. (fields : List (List ℕ)) → block_held fields record { place = p; bytes = held } ≡ block_at files names fields p)
unfolding block_at
is_block told before names p name held start at s long same read = λ files is fields.
    let has : HasAt files name p.entry.start held = subst (λ (x : ℕ). HasAt files name x held) s (read files (sym same ∙ is)) in
    let e = file_of files names p.file name at in
    let has_at = subst (λ (o : Option (List ℕ)). IsSomeAnd o (λ bytes. held ≡ take (length held) (drop p.entry.start bytes))) (sym e) has in
    let block : List ℕ → Block = λ bytes. record { place = p; field = field_at fields p.file; bytes = bytes } in
    ap block (holds (file_at files names p.file) p held long has_at)

pub same_block : (told : Option Contents) (names : List (List ℕ)) (p seen : Place) (held items : List ℕ) → seen ≡ p → items ≡ held → ForSome told (λ files. (fields : List (List ℕ)) → block_held fields record { place = p; bytes = held } ≡ block_at files names fields p) → ForSome told (λ files. (fields : List (List ℕ)) → block_held fields record { place = seen; bytes = items } ≡ block_at files names fields p)
same_block told names p seen held items place bytes block = λ files is fields.
    let by_place : Place → Held = λ x. record { place = x; bytes = items } in
    let by_bytes : List ℕ → Held = λ l. record { place = p; bytes = l } in
    ap (λ (h : Held). block_held fields h) (ap by_place place ∙ ap by_bytes bytes) ∙ block files is fields
