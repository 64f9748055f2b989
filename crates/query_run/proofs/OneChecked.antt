-- One file that is checked.
use Rattle.std.proofs.Common.{◌≡◌, ℕ, zero, suc, ◌<◌, List, [], ◌∷◌, length, Option, Some, None, refl, sym, ap, ◌∙◌, subst, arith}
use Rattle.std.specs.Prelude.{slice_get, IsSomeAnd}
use Rattle.std.specs.Option.{option_and_then}
use Rattle.snel_device.specs.Contents.{Contents}
use Rattle.file_meaning.specs.Files.{Entry, IsFile}
use Rattle.time_index.specs.Answers.{Knows, IsNoFile}
use Rattle.scan_meaning.specs.Blocks.{Block}
use Rattle.scan_meaning.specs.Batches.{first_bad}
use Rattle.scan_meaning.specs.Opened.{Opened, no_file, opened, IsNamed, blocks_of}
use Rattle.scan_files.specs.Places.{file_at}
use Rattle.scan_files.specs.Surveys.{SaysOfFile}
use Rattle.scan_files.specs.declared.fault.FilesFault.{FilesFault}
use Rattle.scan_files.specs.declared.fault.FilesFault.TheVariants as files_fault
use Rattle.check_blocks.specs.Tested.{IsNumberOf, NamesFirstBad}

-- the name is the one at its place
pub same_name : (names : List (List ℕ)) (i : ℕ) (m n : List ℕ) → slice_get names i ≡ Some m → slice_get names i ≡ Some n → m ≡ n
same_name names i m n h k = let e = sym h ∙ k in cc

-- there is a name at each place
pub some_at : (names : List (List ℕ)) (k : ℕ) → k < length names → (name : List ℕ) × (slice_get names k ≡ Some name)
some_at [] k lt = absurd (omega arith)
some_at (n ∷ ns) zero lt = (n, refl)
some_at (n ∷ ns) (suc k) lt = some_at ns k (omega arith)

pub not_a_file : (told : Option Contents) (name : List ℕ) (n k : ℕ) (fault : FilesFault) → fault ≡ files_fault.NotAFile k → SaysOfFile told name n fault → Knows told name IsNoFile
not_a_file told name n k fault is says = (subst (λ (f : FilesFault). SaysOfFile told name n f) is says).1

pub is_no_file : (file : Option (List ℕ)) → IsSomeAnd file IsNoFile → IsNamed file no_file
is_no_file None h = absurd h
is_no_file (Some bytes) h = h

pub is_there : (file : Option (List ℕ)) (P : List ℕ → Type 0) → IsSomeAnd file P → file ≡ None → ⊥
is_there None P h e = h
is_there (Some bytes) P h e = absurd (cc)

-- an opened file, and what its blocks were found to be
pub record Found (file : Option (List ℕ)) (n : ℕ) (entries : List Entry) (answer : Option ℕ) : Type 0 where
  pub o : Opened
  pub is : IsNamed file (opened o)
  pub number : IsNumberOf (first_bad (blocks_of n o)) answer
  pub entries_are : o.entries ≡ entries

pub found_file : (files : Contents) (names : List (List ℕ)) (n : ℕ) (name field : List ℕ) (entries : List Entry) (answer other : Option ℕ) → slice_get names n ≡ Some name → IsSomeAnd (files name) (λ bytes. IsFile bytes field entries) → other ≡ answer
    → ((bytes : List ℕ) → file_at files names n ≡ Some bytes → NamesFirstBad n record { bytes = bytes; field = field; entries = entries } other) → Found (files name) n entries answer
found_file files names n name field entries answer other at file same found = on (files name) refl file
  where
    on : (o : Option (List ℕ)) → files name ≡ o → IsSomeAnd o (λ bytes. IsFile bytes field entries) → Found (files name) n entries answer
    on None e h = absurd h
    on (Some bytes) e h =
        let opening : Opened = record { bytes = bytes; field = field; entries = entries } in
        record {
          o = opening;
          is = subst (λ (f : Option (List ℕ)). IsNamed f (opened opening)) (sym e) (refl, h);
          number = subst (λ (a : Option ℕ). IsNumberOf (first_bad (blocks_of n opening)) a) same (found bytes (ap (λ (x : Option (List ℕ)). option_and_then files x) at ∙ e));
          entries_are = refl;
        }

pub none_is : (x : Option Block) → IsNumberOf x None → x ≡ None
none_is None h = refl
none_is (Some b) h = absurd h

pub some_is : (x : Option Block) (k : ℕ) → IsNumberOf x (Some k) → (b : Block) × (x ≡ Some b) × (b.place.block ≡ k)
some_is None k h = absurd h
some_is (Some b) k h = (b, refl, h)
