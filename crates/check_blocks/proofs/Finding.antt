-- The first bad block of a file, found one block after the other.
use Rattle.std.proofs.Common.{◌≡◌, ℕ, zero, suc, ◌+◌, ◌<◌, ◌≤◌, Bool, true, false, cond, List, [], ◌∷◌, ◌++◌, length, take, map, Option, Some, None, refl, sym, ap, ◌∙◌, subst, arith, get_or}
use Rattle.std.specs.Prelude.{slice_get, IsSomeAnd}
use Rattle.std.proofs.lemmas.List.{take_all, map-append, length-append}
use Rattle.std.proofs.lemmas.List.Sums.{sum_by-cons}
use Rattle.file_meaning.specs.Files.{Entry, StandEndToEnd, index_bytes, tail_bytes}
use Rattle.scan_meaning.specs.Blocks.{Place, Block, places_from, block_of}
use Rattle.scan_meaning.specs.Batches.{is_bad, first_bad}
use Rattle.scan_meaning.specs.Opened.{blocks_of}
use Rattle.scan_meaning.proofs.Batches.{find_behind, find_before}
use Rattle.snel_device.specs.Contents.{Contents}
use Rattle.scan_files.specs.Places.{file_at, IsPlaced}
use Rattle.check_blocks.specs.Tested.{IsNumberOf, NamesFirstBad, IsIndexed, rows_of}

pub at_is : {A : Type 0} (xs : List A) (i : ℕ) (d h : A) → i < length xs → h ≡ get_or xs i d → slice_get xs i ≡ Some h
at_is [] i d h lt is = absurd (omega arith)
at_is (x ∷ xs) zero d h lt is = let same : h ≡ x = is in cc
at_is (x ∷ xs) (suc i) d h lt is = at_is xs i d h (omega arith) is

-- one entry more
more_places : (file from k : ℕ) (es : List Entry) (e : Entry) → slice_get es k ≡ Some e → places_from file from (take (suc k) es) ≡ places_from file from (take k es) ++ record { file = file; block = from + k; entry = e } ∷ []
more_places file from k [] e at = absurd (cc)
more_places file from zero (d ∷ es) e at =
    let same : d ≡ e = cc in
    let n : from ≡ from + zero = omega arith in
    ap (λ (x : Entry). record { file = file; block = from; entry = x } ∷ []) same ∙ ap (λ (m : ℕ). record { file = file; block = m; entry = e } ∷ []) n
more_places file from (suc k) (d ∷ es) e at =
    let n : suc from + k ≡ from + suc k = omega arith in
    let front : Place = record { file = file; block = from; entry = d } in
    ap (λ (l : List Place). front ∷ l) (more_places file (suc from) k es e at)
    ∙ ap (λ (m : ℕ). front ∷ (places_from file (suc from) (take k es) ++ record { file = file; block = m; entry = e } ∷ [])) n

-- the block at this number, behind good ones
module _ (file : ℕ) (bytes field : List ℕ) (es : List Entry) (k : ℕ) (e : Entry) (at : slice_get es k ≡ Some e) where
  abbrev Here : Place
  Here = record { file = file; block = k; entry = e }

  abbrev First : ℕ → List Block
  First n = blocks_of file record { bytes = bytes; field = field; entries = take n es }

  next : First (k + 1) ≡ First k ++ block_of bytes field Here ∷ []
  next =
      let n : k + 1 ≡ suc k = omega arith in
      let same : 0 + k ≡ k = omega arith in
      ap (λ (m : ℕ). First m) n ∙ ap (λ (l : List Place). map (block_of bytes field) l) (more_places file 0 k es e at)
      ∙ map-append (block_of bytes field) (places_from file 0 (take k es)) (record { file = file; block = 0 + k; entry = e } ∷ [])
      ∙ ap (λ (m : ℕ). First k ++ block_of bytes field record { file = file; block = m; entry = e } ∷ []) same

  pub good_next : first_bad (First k) ≡ None → false ≡ is_bad (block_of bytes field Here) → first_bad (First (k + 1)) ≡ None
  good_next before good =
      ap (λ (l : List Block). first_bad l) next ∙ find_behind is_bad (First k) (block_of bytes field Here ∷ []) before
      ∙ ap (λ (t : Bool). cond t (Some (block_of bytes field Here)) None) (sym good)

  entries_rest : (n : ℕ) (xs : List Entry) (from : ℕ) → (rest : List Block) × (map (block_of bytes field) (places_from file from xs) ≡ map (block_of bytes field) (places_from file from (take n xs)) ++ rest)
  entries_rest zero xs from = (map (block_of bytes field) (places_from file from xs), refl)
  entries_rest (suc n) [] from = ([], refl)
  entries_rest (suc n) (x ∷ xs) from =
      let r = entries_rest n xs (suc from) in
      (r.0, ap (λ (l : List Block). block_of bytes field record { file = file; block = from; entry = x } ∷ l) r.1)

  pub bad_here : first_bad (First k) ≡ None → true ≡ is_bad (block_of bytes field Here) → NamesFirstBad file record { bytes = bytes; field = field; entries = es } (Some k)
  bad_here before bad =
      let own : first_bad (First (k + 1)) ≡ Some (block_of bytes field Here) =
      ap (λ (l : List Block). first_bad l) next ∙ find_behind is_bad (First k) (block_of bytes field Here ∷ []) before
      ∙ ap (λ (t : Bool). cond t (Some (block_of bytes field Here)) None) (sym bad) in
      let rest = entries_rest (k + 1) es 0 in
      let all : first_bad (blocks_of file record { bytes = bytes; field = field; entries = es }) ≡ Some (block_of bytes field Here) =
      ap (λ (l : List Block). first_bad l) rest.1 ∙ find_before is_bad (First (k + 1)) rest.0 (block_of bytes field Here) own in
      subst (λ (o : Option Block). IsNumberOf o (Some k)) (sym all) refl

-- no bad block up to the last
pub none_bad : (file : ℕ) (bytes field : List ℕ) (es : List Entry) (k : ℕ) → length es ≤ k → first_bad (blocks_of file record { bytes = bytes; field = field; entries = take k es }) ≡ None → NamesFirstBad file record { bytes = bytes; field = field; entries = es } None
none_bad file bytes field es k all none =
    let whole : take k es ≡ es = take_all k es all in
    let same = subst (λ (l : List Entry). first_bad (blocks_of file record { bytes = bytes; field = field; entries = l }) ≡ None) whole none in
    subst (λ (o : Option Block). IsNumberOf o None) (sym same) tt

stands_on : (from to : ℕ) (es : List Entry) → StandEndToEnd from es to → from ≤ to
stands_on from to [] h = omega arith
stands_on from to (e ∷ es) h = let r = stands_on (from + e.length) to es h.2 in omega arith

stands_within : (from to k : ℕ) (es : List Entry) (e : Entry) → StandEndToEnd from es to → slice_get es k ≡ Some e → e.start + e.length ≤ to
stands_within from to k [] e h at = absurd (cc)
stands_within from to zero (d ∷ es) e h at =
    let same : d ≡ e = cc in
    let start = h.0 in
    let r = stands_on (from + d.length) to es h.2 in
    subst (λ (x : Entry). x.start + x.length ≤ to) same (omega arith)
stands_within from to (suc k) (d ∷ es) e h at = stands_within (from + d.length) to k es e h.2 at

-- each block of a file lies within it
pub placed : (files : Contents) (names : List (List ℕ)) (file k block : ℕ) (field : List ℕ) (es : List Entry) (e : Entry) → slice_get es k ≡ Some e → IsIndexed (file_at files names file) field es → IsPlaced files names record { file = file; block = block; entry = e }
unfolding IsPlaced
placed files names file k block field es e at indexed = on (file_at files names file) indexed
  where
    on : (o : Option (List ℕ)) → IsIndexed o field es → IsSomeAnd o (λ bytes. e.start + e.length ≤ length bytes)
    on None h = absurd h
    on (Some bytes) h =
        let low = stands_within 0 (length h.blocks) k es e h.index.stand at in
        let long : length bytes ≡ length h.blocks + length (index_bytes field es ++ tail_bytes (length h.blocks)) = ap (λ (l : List ℕ). length l) h.parts ∙ length-append h.blocks (index_bytes field es ++ tail_bytes (length h.blocks)) in
        omega arith

-- the same of an equal field and equal entries
pub renamed : (file : ℕ) (bytes f g : List ℕ) (es ds : List Entry) (answer : Option ℕ) → f ≡ g → es ≡ ds → NamesFirstBad file record { bytes = bytes; field = f; entries = es } answer → NamesFirstBad file record { bytes = bytes; field = g; entries = ds } answer
renamed file bytes f g es ds answer x y h =
    subst (λ (l : List Entry). NamesFirstBad file record { bytes = bytes; field = g; entries = l } answer) y
    (subst (λ (l : List ℕ). NamesFirstBad file record { bytes = bytes; field = l; entries = es } answer) x h)

-- the rows of one entry more
pub rows_more : (es : List Entry) (k : ℕ) (e : Entry) → slice_get es k ≡ Some e → rows_of (take (k + 1) es) ≡ rows_of (take k es) + e.rows
rows_more es k e at = let n : k + 1 ≡ suc k = omega arith in ap (λ (m : ℕ). rows_of (take m es)) n ∙ on es k at
  where
    on : (xs : List Entry) (i : ℕ) → slice_get xs i ≡ Some e → rows_of (take (suc i) xs) ≡ rows_of (take i xs) + e.rows
    on [] i at = absurd (cc)
    on (x ∷ xs) zero at =
        let same : x ≡ e = cc in
        let r = ap (λ (y : Entry). y.rows) same in
        sum_by-cons (λ (y : Entry). y.rows) x [] ∙ omega arith
    on (x ∷ xs) (suc i) at =
        let r = on xs i at in
        let more = sum_by-cons (λ (y : Entry). y.rows) x (take (suc i) xs) in
        let less = sum_by-cons (λ (y : Entry). y.rows) x (take i xs) in
        omega arith
