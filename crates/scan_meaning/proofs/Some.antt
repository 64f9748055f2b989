-- There is a verdict, and a number of batches that count.
use Rattle.std.proofs.Common.{◌≡◌, ◌⊎◌, inl, inr, ℕ, zero, suc, ◌+◌, ◌*◌, ◌<◌, ◌≤◌, List, [], ◌∷◌, length, Option, Some, None, refl, arith}
use Rattle.std.proofs.Math.Logic.{⊎_elim}
use Rattle.std.proofs.lemmas.Bool.{cases_lt}
use Rattle.snel_device.specs.Contents.{Contents}
use Rattle.file_meaning.specs.Files.{Entry}
use Rattle.file_meaning.specs.Reading.{AreBytes, file_in}
use Rattle.file_meaning.proofs.Spelled.{file_reads}
use Rattle.file_meaning.proofs.Believed.{file_is}
use Rattle.tree_meaning.specs.Tree.{Query}
use Rattle.scan_meaning.specs.Blocks.{Block}
use Rattle.scan_meaning.specs.Batches.{need, count_passed, front, IsShort, BatchCounts, Counts}
use Rattle.scan_meaning.specs.Opened.{Named, absent, no_file, opened, IsNamed, AreNamed}
use Rattle.scan_meaning.specs.Verdicts.{Verdict, verdict_of, Finds}

one_is : (bytes : List ℕ) → AreBytes bytes → (o : Option (List ℕ × List Entry)) → file_in bytes ≡ o → (f : Named) × IsNamed (Some bytes) f
one_is bytes are None is = (no_file, λ f es file. let read = file_reads bytes f es file in absurd (cc))
one_is bytes are (Some i) is = (opened record { bytes = bytes; field = i.0; entries = i.1 }, (refl, file_is bytes i.0 i.1 are is))

name_is : (o : Option (List ℕ)) → ((b : List ℕ) → o ≡ Some b → AreBytes b) → (f : Named) × IsNamed o f
name_is None are = (absent, tt)
name_is (Some b) are = one_is b (are b refl) (file_in b) refl

names_are : (files : Contents) (names : List (List ℕ)) → ((n b : List ℕ) → files n ≡ Some b → AreBytes b) → (fs : List Named) × AreNamed files names fs
names_are files [] are = ([], tt)
names_are files (n ∷ ns) are =
    let f = name_is (files n) (are n) in
    let fs = names_are files ns are in
    (f.0 ∷ fs.0, (f.1, fs.1))

pub some_verdict : (q : Query) (names : List (List ℕ)) (files : Contents) → ((n b : List ℕ) → files n ≡ Some b → AreBytes b) → (v : Verdict) × Finds q names (Some files) v
some_verdict q names files are = let fs = names_are files names are in (verdict_of q fs.0, record { files_are = fs.0; are = fs.1; is = refl })

decide : (limit : Option ℕ) (n : ℕ) → IsShort limit n ⊎ ¬ IsShort limit n
decide None n = inl tt
decide (Some l) n = ⊎_elim (λ (lt : n < l). inl lt) (λ (ge : l ≤ n). inr (λ (lt : n < l). omega arith)) (cases_lt n l)

counts_too : (q : Query) (bs : List Block) (j : ℕ) → ((i : ℕ) → i < j → BatchCounts q bs i) → IsShort (need q) (count_passed q (front j bs)) → (i : ℕ) → i < suc j → BatchCounts q bs i
unfolding BatchCounts
counts_too q bs j counted own i lt = λ k le. ⊎_elim
    (λ (l : k < j). counted k l k (omega arith))
    (λ (g : j ≤ k). let e : k ≡ j = omega arith in rw e own)
    (cases_lt k j)

search_count : (q : Query) (bs : List Block) (fuel j : ℕ) → length bs ≤ 64 * (j + fuel) → ((i : ℕ) → i < j → BatchCounts q bs i) → (count : ℕ) × Counts q bs count
search_count q bs zero j le counted = (j, record { each = counted; last = inl (omega arith) })
search_count q bs (suc fuel) j le counted = ⊎_elim
    (λ (short : IsShort (need q) (count_passed q (front j bs))). search_count q bs fuel (suc j) (omega arith) (counts_too q bs j counted short))
    (λ (full : ¬ IsShort (need q) (count_passed q (front j bs))). (j, record { each = counted; last = inr full }))
    (decide (need q) (count_passed q (front j bs)))

pub some_count : (q : Query) (bs : List Block) → (count : ℕ) × Counts q bs count
some_count q bs = search_count q bs (length bs) 0 (omega arith) (λ i lt. absurd (omega arith))
