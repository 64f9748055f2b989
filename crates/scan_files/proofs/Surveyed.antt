-- One more file that can be read, and the first that can't.
use Rattle.std.proofs.Common.{◌≡◌, ℕ, zero, suc, ◌+◌, ◌*◌, ◌<◌, ◌≤◌, Bool, true, false, cond, not, List, [], ◌∷◌, ◌++◌, length, take, drop, get_or, map, min, filter, Option, Some, None, refl, sym, ap, ◌∙◌, subst, arith, add-one, zero-add, append_assoc, length-append}
use Rattle.std.specs.Prelude.{slice_get, All, count_by, sum_by, unwrap_or, IsSomeAnd, ◌-◌}
use Rattle.std.specs.Option.{ForSome, option_and_then}
use Rattle.std.proofs.Math.Logic.{⊎_elim}
use Rattle.std.proofs.lemmas.Bool.{cases_lt}
use Rattle.std.proofs.lemmas.List.{append-nil, take_all, length-take, length-map, map-append, get_or_append_left, get_or-append_right}
use Rattle.std.proofs.lemmas.List.Elements.{All-cons}
use Rattle.std.proofs.lemmas.List.Sums.{sum_by-cons, sum_by-append, sum_by-take-le, sum_by_more}
use Rattle.snel_device.specs.Contents.{Contents}
use Rattle.file_meaning.specs.Files.{Entry, IsFile, StandEndToEnd, index_bytes, tail_bytes}
use Rattle.file_meaning.specs.Reading.{index_cost}
use Rattle.file_meaning.proofs.Spelled.{stand_bounds}
use Rattle.time_index.specs.Answers.{Knows, IsNoFile, Costs}
use Rattle.tree_meaning.specs.Tree.{Query}
use Rattle.scan_meaning.specs.Blocks.{Place, Block, places_from, block_of}
use Rattle.scan_meaning.specs.Wanted.{is_wanted}
use Rattle.scan_meaning.specs.Opened.{Opened, Named, absent, no_file, opened, IsNamed, AreNamed, blocks_of, blocks_from}
use Rattle.scan_meaning.specs.Verdicts.{wanted, skipped}
use Rattle.scan_meaning.specs.Causes.{IsFirst, index_costs}
use Rattle.scan_meaning.proofs.Named.{named_more, named_count, blocks_more}
use Rattle.scan_files.specs.Places.{field_at, file_at, block_at, blocks_at, IsPlaced}
use Rattle.scan_files.specs.Surveys.{Surveys, FirstIsThere, SaysOfFile, SaysOfFiles}
use Rattle.scan_files.specs.declared.fault.FilesFault.{FilesFault}
use Rattle.scan_files.specs.declared.fault.FilesFault.TheVariants.{Absent, NotAFile, ReadFault, OutOfMemory}

filter-append : {X : Type 0} (p : X → Bool) (xs ys : List X) → filter p (xs ++ ys) ≡ filter p xs ++ filter p ys
filter-append p [] ys = refl
filter-append p (x ∷ xs) ys = on (p x) (filter-append p xs ys)
  where
    on : (t : Bool) → filter p (xs ++ ys) ≡ filter p xs ++ filter p ys → cond t (x ∷ filter p (xs ++ ys)) (filter p (xs ++ ys)) ≡ cond t (x ∷ filter p xs) (filter p xs) ++ filter p ys
    on true h = ap (λ l. x ∷ l) h
    on false h = h

All-append : {X : Type 0} (P : X → Type 0) (xs ys : List X) → All P xs → All P ys → All P (xs ++ ys)
All-append P xs ys h k = λ i d lt. ⊎_elim
    (λ (l : i < length xs). subst P (sym (get_or_append_left xs ys d i l)) (h i d l))
    (λ (g : length xs ≤ i).
    let long = length-append xs ys in
    subst P (sym (get_or-append_right xs ys (length xs) i d refl g)) (k (i - length xs) d (omega arith)))
    (cases_lt i (length xs))

module _ (q : Query) (files : Contents) (names fields : List (List ℕ)) (i : ℕ) (bytes field : List ℕ) (is : file_at files names i ≡ Some bytes) where
  at_place : field_at fields i ≡ field → (k : ℕ) (e : Entry) → block_at files names fields record { file = i; block = k; entry = e } ≡ block_of bytes field record { file = i; block = k; entry = e }
  unfolding block_at
  at_place named k e =
      let p : Place = record { file = i; block = k; entry = e } in
      ap (λ (o : Option (List ℕ)). block_of (unwrap_or o []) (field_at fields i) p) is ∙ ap (λ (f : List ℕ). block_of bytes f p) named

  abbrev Sought : ℕ → List Entry → List Place
  Sought k es = filter (λ p. is_wanted q field p.entry) (places_from i k es)

  abbrev Blocked : ℕ → List Entry → List Block
  Blocked k es = wanted q (map (block_of bytes field) (places_from i k es))

  -- the blocks at the places that are wanted
  found : field_at fields i ≡ field → (k : ℕ) (es : List Entry) → blocks_at files names fields (Sought k es) ≡ Blocked k es
  found named k [] = refl
  found named k (e ∷ es) = on (is_wanted q field e) (found named (suc k) es) (at_place named k e)
    where
      on : (t : Bool) → blocks_at files names fields (Sought (suc k) es) ≡ Blocked (suc k) es
          → block_at files names fields record { file = i; block = k; entry = e } ≡ block_of bytes field record { file = i; block = k; entry = e }
          → blocks_at files names fields (cond t (record { file = i; block = k; entry = e } ∷ Sought (suc k) es) (Sought (suc k) es))
          ≡ cond t (block_of bytes field record { file = i; block = k; entry = e } ∷ Blocked (suc k) es) (Blocked (suc k) es)
      on true rest here = ap (λ (b : Block). b ∷ blocks_at files names fields (Sought (suc k) es)) here ∙ ap (λ (l : List Block). block_of bytes field record { file = i; block = k; entry = e } ∷ l) rest
      on false rest here = rest

  placed_one : (k to : ℕ) (e : Entry) → e.start + e.length ≤ to → to ≤ length bytes → IsPlaced files names record { file = i; block = k; entry = e }
  unfolding IsPlaced
  placed_one k to e within room = subst (λ (o : Option (List ℕ)). IsSomeAnd o (λ b. e.start + e.length ≤ length b)) (sym is) (omega arith)

  places_within : (k from to : ℕ) (es : List Entry) → StandEndToEnd from es to → to ≤ length bytes → All (λ p. IsPlaced files names p) (Sought k es)
  places_within k from to [] stand room = λ n d lt. absurd (omega arith)
  places_within k from to (e ∷ es) stand room =
      let start : e.start ≡ from = stand.0 in
      let ends : from + e.length ≤ to = (stand_bounds (from + e.length) to es stand.2).0 in
      on (is_wanted q field e) (placed_one k to e (omega arith) room) (places_within (suc k) (from + e.length) to es stand.2 room)
    where
      on : (t : Bool) → IsPlaced files names record { file = i; block = k; entry = e } → All (λ p. IsPlaced files names p) (Sought (suc k) es)
          → All (λ p. IsPlaced files names p) (cond t (record { file = i; block = k; entry = e } ∷ Sought (suc k) es) (Sought (suc k) es))
      on true here rest = All-cons (λ p. IsPlaced files names p) record { file = i; block = k; entry = e } (Sought (suc k) es) here rest
      on false here rest = rest

counted : (q : Query) (bytes field : List ℕ) (ps : List Place) → skipped q (map (block_of bytes field) ps) ≡ count_by (λ p. not (is_wanted q field p.entry)) ps
counted q bytes field [] = refl
counted q bytes field (p ∷ ps) =
    sum_by-cons (λ (b : Block). cond (not (is_wanted q b.field b.place.entry)) 1 0) (block_of bytes field p) (map (block_of bytes field) ps)
    ∙ ap (λ (n : ℕ). cond (not (is_wanted q field p.entry)) 1 0 + n) (counted q bytes field ps)
    ∙ sym (sum_by-cons (λ (x : Place). cond (not (is_wanted q field x.entry)) 1 0) p ps)

-- all new places are of this file
module _ (q : Query) (field : List ℕ) (n i : ℕ) (lt : i < n) where
  abbrev Found : ℕ → List Entry → List Place
  Found k es = filter (λ p. is_wanted q field p.entry) (places_from i k es)

  in_file : (k : ℕ) (es : List Entry) → All (λ (p : Place). p.file < n) (Found k es)
  in_file k [] = λ m d less. absurd (omega arith)
  in_file k (e ∷ es) = on (is_wanted q field e) (in_file (suc k) es)
    where
      on : (t : Bool) → All (λ (p : Place). p.file < n) (Found (suc k) es) → All (λ (p : Place). p.file < n) (cond t (record { file = i; block = k; entry = e } ∷ Found (suc k) es) (Found (suc k) es))
      on true rest = All-cons (λ (p : Place). p.file < n) record { file = i; block = k; entry = e } (Found (suc k) es) lt rest
      on false rest = rest

  pub named_in : (es : List Entry) (old now : List Place) → All (λ (p : Place). p.file < i) old → now ≡ old ++ Found 0 es → All (λ (p : Place). p.file < n) now
  named_in es old now before added =
      subst (λ (l : List Place). All (λ (p : Place). p.file < n) l) (sym added) (All-append (λ (p : Place). p.file < n) old (Found 0 es) (λ k d less. let h = before k d less in omega arith) (in_file 0 es))

-- a field more changes nothing of the files before
field_before : (fields : List (List ℕ)) (f : List ℕ) (k : ℕ) → k < length fields → field_at (fields ++ f ∷ []) k ≡ field_at fields k
field_before [] f k lt = absurd (omega arith)
field_before (x ∷ xs) f zero lt = refl
field_before (x ∷ xs) f (suc k) lt = field_before xs f k (omega arith)

field_last : (fields : List (List ℕ)) (f : List ℕ) → field_at (fields ++ f ∷ []) (length fields) ≡ f
field_last [] f = refl
field_last (x ∷ xs) f = field_last xs f

block_before : (files : Contents) (names fields : List (List ℕ)) (f : List ℕ) (p : Place) → p.file < length fields → block_at files names (fields ++ f ∷ []) p ≡ block_at files names fields p
unfolding block_at
block_before files names fields f p lt = ap (λ (g : List ℕ). block_of (unwrap_or (file_at files names p.file) []) g p) (field_before fields f p.file lt)

blocks_before : (files : Contents) (names fields : List (List ℕ)) (f : List ℕ) (ps : List Place) → All (λ (p : Place). p.file < length fields) ps → blocks_at files names (fields ++ f ∷ []) ps ≡ blocks_at files names fields ps
blocks_before files names fields f [] all = refl
blocks_before files names fields f (p ∷ ps) all =
    ap (λ (b : Block). b ∷ blocks_at files names (fields ++ f ∷ []) ps) (block_before files names fields f p (all 0 p (omega arith)))
    ∙ ap (λ (l : List Block). block_at files names fields p ∷ l) (blocks_before files names fields f ps (λ k d lt. all (suc k) d (omega arith)))

one_file : (files : Contents) (names : List (List ℕ)) (i : ℕ) (name bytes : List ℕ) → slice_get names i ≡ Some name → files name ≡ Some bytes → file_at files names i ≡ Some bytes
one_file files names i name bytes at is = ap (λ o. option_and_then files o) at ∙ is

fits : (bytes field : List ℕ) (es : List Entry) (file : IsFile bytes field es) → length file.blocks ≤ length bytes
fits bytes field es file =
    let long : length bytes ≡ length file.blocks + length (index_bytes field es ++ tail_bytes (length file.blocks)) = ap (λ (l : List ℕ). length l) file.parts ∙ length-append file.blocks (index_bytes field es ++ tail_bytes (length file.blocks)) in
    omega arith

within : (names : List (List ℕ)) (i : ℕ) (name : List ℕ) → slice_get names i ≡ Some name → i < length names
within [] i name at = absurd (cc)
within (n ∷ ns) zero name at = omega arith
within (n ∷ ns) (suc i) name at = let h = within ns i name at in omega arith

pub surveys_more : (q : Query) (names : List (List ℕ)) (i : ℕ) (files : Contents) (fields new_fields : List (List ℕ)) (places now : List Place) (left_out new_left more : ℕ) (name bytes field : List ℕ) (es : List Entry) → Surveys q names i files fields places left_out → All (λ (p : Place). p.file < i) places → slice_get names i ≡ Some name → files name ≡ Some bytes → IsFile bytes field es → new_fields ≡ fields ++ field ∷ [] → now ≡ places ++ filter (λ p. is_wanted q field p.entry) (places_from i 0 es) → more ≡ count_by (λ p. not (is_wanted q field p.entry)) (places_from i 0 es) → new_left ≡ left_out + more → Surveys q names (i + 1) files new_fields now new_left
surveys_more q names i files fields new_fields places now left_out new_left more name bytes field es s before at is file fields_more added more_is left_is =
    let o : Opened = record { bytes = bytes; field = field; entries = es } in
    let fs = map (λ x. opened x) s.files_are in
    let file_is = one_file files names i name bytes at is in
    let inside = within names i name at in
    let count : length s.files_are ≡ i = sym (length-map s.files_are (λ x. opened x)) ∙ named_count files (take i names) fs s.are ∙ length-take i names ∙ omega arith in
    let number : 0 + length s.files_are ≡ i = omega arith in
    let fields_count : length fields ≡ i = ap (λ (l : List (List ℕ)). length l) s.fields_are ∙ length-map s.files_are (λ x. x.field) ∙ count in
    let all : blocks_from 0 (map (λ x. opened x) (s.files_are ++ o ∷ [])) ≡ blocks_from 0 fs ++ blocks_of i o = blocks_more 0 s.files_are o ∙ ap (λ (n : ℕ). blocks_from 0 fs ++ blocks_of n o) number in
    let here : IsNamed (files name) (opened o) = subst (λ (f : Option (List ℕ)). IsNamed f (opened o)) (sym is) (refl, file) in
    let new_places = filter (λ p. is_wanted q field p.entry) (places_from i 0 es) in
    let last : field_at (fields ++ field ∷ []) i ≡ field = ap (λ (n : ℕ). field_at (fields ++ field ∷ []) n) (sym fields_count) ∙ field_last fields field in
    let old_ones : All (λ (p : Place). p.file < length fields) places = λ k d lt. let h = before k d lt in omega arith in
    record {
      files_are = s.files_are ++ o ∷ [];
      are = rw add-one (named_more files names i s.files_are name o s.are at here);
      fields_are = fields_more ∙ ap (λ (l : List (List ℕ)). l ++ field ∷ []) s.fields_are ∙ sym (map-append (λ x. x.field) s.files_are (o ∷ []));
      blocks = ap (λ (l : List (List ℕ)). blocks_at files names l now) fields_more ∙ ap (λ (l : List Place). blocks_at files names (fields ++ field ∷ []) l) added ∙ map-append (block_at files names (fields ++ field ∷ [])) places new_places
          ∙ ap (λ (l : List Block). l ++ blocks_at files names (fields ++ field ∷ []) new_places) (blocks_before files names fields field places old_ones ∙ s.blocks)
          ∙ ap (λ (l : List Block). wanted q (blocks_from 0 fs) ++ l) (found q files names (fields ++ field ∷ []) i bytes field file_is last 0 es)
          ∙ sym (filter-append (λ (b : Block). is_wanted q b.field b.place.entry) (blocks_from 0 fs) (blocks_of i o))
          ∙ ap (λ (l : List Block). wanted q l) (sym all);
      placed = subst (λ (l : List Place). All (λ p. IsPlaced files names p) l) (sym added) (All-append (λ p. IsPlaced files names p) places new_places s.placed (places_within q files names fields i bytes field file_is 0 0 (length file.blocks) es file.index.stand (fits bytes field es file)));
      skips = left_is ∙ ap (λ (n : ℕ). n + more) s.skips ∙ ap (λ (n : ℕ). skipped q (blocks_from 0 fs) + n) (more_is ∙ sym (counted q bytes field (places_from i 0 es)))
          ∙ sym (sum_by-append (λ (b : Block). cond (not (is_wanted q b.field b.place.entry)) 1 0) (blocks_from 0 fs) (blocks_of i o))
          ∙ ap (λ (l : List Block). skipped q l) (sym all);
    }

known : (o : Option (List ℕ)) (P : List ℕ → Type 0) → IsSomeAnd o P → (b : List ℕ) × (o ≡ Some b) × P b
known None P h = absurd h
known (Some b) P h = (b, refl, h)

module _ (told mid : Option Contents) (q : Query) (names : List (List ℕ)) (i : ℕ) (fields : List (List ℕ)) (places : List Place) (left_out : ℕ) (name : List ℕ) (same : mid ≡ told) (so_far : ForSome told (λ files. Surveys q names i files fields places left_out)) (at : slice_get names i ≡ Some name) where
  pub surveyed_more : All (λ (p : Place). p.file < i) places → (new_fields : List (List ℕ)) (now : List Place) (new_left more : ℕ) (field : List ℕ) (es : List Entry) → Knows mid name (λ bytes. IsFile bytes field es) → new_fields ≡ fields ++ field ∷ [] → now ≡ places ++ filter (λ p. is_wanted q field p.entry) (places_from i 0 es) → more ≡ count_by (λ p. not (is_wanted q field p.entry)) (places_from i 0 es) → new_left ≡ left_out + more → ForSome told (λ files. Surveys q names (i + 1) files new_fields now new_left)
  surveyed_more before new_fields now new_left more field es file fields_more added more_is left_is = λ files is.
      let h = known (files name) (λ bytes. IsFile bytes field es) (file files (same ∙ is)) in
      surveys_more q names i files fields new_fields places now left_out new_left more name h.0 field es (so_far files is) before at h.1 h.2 fields_more added more_is left_is

  first_absent : (files : Contents) → told ≡ Some files → files name ≡ None → IsFirst files names i absent
  first_absent files is none = let s = so_far files is in record { before = s.files_are; are = s.are; name = name; at = at; is = subst (λ (f : Option (List ℕ)). IsNamed f absent) (sym none) tt }

  first_no_file : (files : Contents) → told ≡ Some files → IsSomeAnd (files name) IsNoFile → IsFirst files names i no_file
  first_no_file files is none = let s = so_far files is in record { before = s.files_are; are = s.are; name = name; at = at; is = on (files name) none }
    where
      on : (f : Option (List ℕ)) → IsSomeAnd f IsNoFile → IsNamed f no_file
      on None h = h
      on (Some b) h = h

  first_there : (files : Contents) → told ≡ Some files → (files name ≡ None → ⊥) → FirstIsThere files names
  first_there files is there = on names i (so_far files is).files_are (so_far files is).are at
    where
      on : (ns : List (List ℕ)) (k : ℕ) (os : List Opened) → AreNamed files (take k ns) (map (λ o. opened o) os) → slice_get ns k ≡ Some name → FirstIsThere files ns
      on [] k os are at = absurd (cc)
      on (n ∷ ns) zero os are at = (name, at, there)
      on (n ∷ ns) (suc k) [] are at = absurd are
      on (n ∷ ns) (suc k) (o ∷ os) are at = (n, refl, λ none. absurd (subst (λ (f : Option (List ℕ)). IsNamed f (opened o)) none are.0))

  -- what stands against this file is the first that stands against the files
  pub says_of_files : (n : ℕ) (fault : FilesFault) → n ≡ i → SaysOfFile mid name n fault → SaysOfFiles told names fault
  says_of_files n (Absent k) number h = λ files is. subst (λ (m : ℕ). IsFirst files names m absent) (sym (h.0 ∙ number)) (first_absent files is (h.1 files (same ∙ is)))
  says_of_files n (NotAFile k) number h = λ files is. subst (λ (m : ℕ). IsFirst files names m no_file) (sym (h.0 ∙ number)) (first_no_file files is (h.1 files (same ∙ is)))
  says_of_files n ReadFault number h = λ files is. first_there files is (h files (same ∙ is))
  says_of_files n OutOfMemory number h = tt

-- the bytes of the tails and indexes so far
one_name : (names : List (List ℕ)) (i : ℕ) (name : List ℕ) → slice_get names i ≡ Some name → get_or names i [] ≡ name
one_name [] i name at = absurd (cc)
one_name (n ∷ ns) zero name at = cc
one_name (n ∷ ns) (suc i) name at = one_name ns i name at

pub costs_more : (told mid : Option Contents) (names : List (List ℕ)) (i : ℕ) (name : List ℕ) (start before now : ℕ) → mid ≡ told → slice_get names i ≡ Some name → ForSome told (λ files. before ≤ start + index_costs files (take i names)) → Costs mid name before now → ForSome told (λ files. now ≤ start + index_costs files (take (i + 1) names))
costs_more told mid names i name start before now same at so_far costs = λ files is.
    let one = costs.cost files (same ∙ is) in
    let old = so_far files is in
    let more : index_costs files (take (i + 1) names) ≡ index_costs files (take i names) + index_cost (files name) = sum_by_more (λ n. index_cost (files n)) names i [] (within names i name at) ∙ ap (λ (n : List ℕ). index_costs files (take i names) + index_cost (files n)) (one_name names i name at) in
    omega arith

pub costs_within : (told : Option Contents) (names : List (List ℕ)) (i : ℕ) (start now : ℕ) → ForSome told (λ files. now ≤ start + index_costs files (take i names)) → ForSome told (λ files. now ≤ start + index_costs files names)
costs_within told names i start now so_far = λ files is.
    let old = so_far files is in
    let le : index_costs files (take i names) ≤ index_costs files names = sum_by-take-le (λ n. index_cost (files n)) names i in
    omega arith

pub surveyed_all : (told : Option Contents) (q : Query) (names : List (List ℕ)) (i : ℕ) (fields : List (List ℕ)) (places : List Place) (left_out : ℕ) → i ≡ length names → ForSome told (λ files. Surveys q names i files fields places left_out) → ForSome told (λ files. Surveys q names (length names) files fields places left_out)
surveyed_all told q names i fields places left_out e h = λ files is. subst (λ (n : ℕ). Surveys q names n files fields places left_out) e (h files is)

pub nothing_surveyed : (told : Option Contents) (q : Query) (names : List (List ℕ)) → ForSome told (λ files. Surveys q names 0 files [] [] 0)
nothing_surveyed told q names = λ files is. record { files_are = []; are = tt; fields_are = refl; blocks = refl; placed = λ k d lt. absurd (omega arith); skips = refl }
