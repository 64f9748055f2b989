-- What the named files are, one after the other.
use Rattle.std.proofs.Common.{◌≡◌, ℕ, zero, suc, ◌+◌, List, [], ◌∷◌, ◌++◌, length, take, map, Option, Some, None, refl, sym, ap, ◌∙◌, subst, arith, append_assoc}
use Rattle.std.specs.Prelude.{slice_get, unwrap_or}
use Rattle.std.proofs.lemmas.List.{append-nil}
use Rattle.snel_device.specs.Contents.{Contents}
use Rattle.file_meaning.specs.Files.{Entry, IsFile}
use Rattle.tree_meaning.specs.Tree.{Query}
use Rattle.scan_meaning.specs.Blocks.{Block}
use Rattle.scan_meaning.specs.Opened.{Opened, Named, absent, no_file, opened, IsNamed, AreNamed, blocks_of, blocks_from}
use Rattle.scan_meaning.specs.Verdicts.{Verdict, scan, refusal, wanted, skipped, verdict_of, FindsInFiles, Finds}
use Rattle.file_meaning.proofs.Spelled.{file_reads}
use Rattle.file_meaning.proofs.Believed.{inside}

one_index : (bytes f g : List ℕ) (es ds : List Entry) → IsFile bytes f es → IsFile bytes g ds → (f ≡ g) × (es ≡ ds)
one_index bytes f g es ds first second =
    let x : List ℕ × List Entry = (f, es) in
    let y : List ℕ × List Entry = (g, ds) in
    let same = inside x y (sym (file_reads bytes f es first) ∙ file_reads bytes g ds second) in
    (ap (λ (p : List ℕ × List Entry). p.0) same, ap (λ (p : List ℕ × List Entry). p.1) same)

same_parts : (b c f g : List ℕ) (es ds : List Entry) → b ≡ c → f ≡ g → es ≡ ds → opened record { bytes = b; field = f; entries = es } ≡ opened record { bytes = c; field = g; entries = ds }
same_parts b c f g es ds x y z =
    ap (λ (l : List ℕ). opened record { bytes = l; field = f; entries = es }) x
    ∙ ap (λ (l : List ℕ). opened record { bytes = c; field = l; entries = es }) y
    ∙ ap (λ (l : List Entry). opened record { bytes = c; field = g; entries = l }) z

same_file : (b : List ℕ) (o p : Opened) → b ≡ o.bytes → IsFile b o.field o.entries → b ≡ p.bytes → IsFile b p.field p.entries → opened o ≡ opened p
same_file b o p is file also other =
    let one = one_index b o.field p.field o.entries p.entries file other in
    same_parts o.bytes p.bytes o.field p.field o.entries p.entries (sym is ∙ also) one.0 one.1

-- a name's file is one of these
pub one_named : (file : Option (List ℕ)) (f g : Named) → IsNamed file f → IsNamed file g → f ≡ g
one_named None absent absent h k = refl
one_named None absent no_file h k = absurd k
one_named None absent (opened p) h k = absurd k
one_named None no_file g h k = absurd h
one_named None (opened o) g h k = absurd h
one_named (Some b) absent g h k = absurd h
one_named (Some b) no_file absent h k = absurd k
one_named (Some b) no_file no_file h k = refl
one_named (Some b) no_file (opened p) h k = absurd (h p.field p.entries k.1)
one_named (Some b) (opened o) absent h k = absurd k
one_named (Some b) (opened o) no_file h k = absurd (k o.field o.entries h.1)
one_named (Some b) (opened o) (opened p) h k = same_file b o p h.0 h.1 k.0 k.1

pub all_named : (files : Contents) (names : List (List ℕ)) (fs gs : List Named) → AreNamed files names fs → AreNamed files names gs → fs ≡ gs
all_named files [] [] [] h k = refl
all_named files [] [] (g ∷ gs) h k = absurd k
all_named files [] (f ∷ fs) gs h k = absurd h
all_named files (n ∷ ns) [] gs h k = absurd h
all_named files (n ∷ ns) (f ∷ fs) [] h k = absurd k
all_named files (n ∷ ns) (f ∷ fs) (g ∷ gs) h k = let e = one_named (files n) f g h.0 k.0 in let r = all_named files ns fs gs h.1 k.1 in cc

pub one_verdict : (q : Query) (names : List (List ℕ)) (told : Option Contents) (v w : Verdict) → Finds q names told v → Finds q names told w → v ≡ w
one_verdict q names None v w h k = h ∙ sym k
one_verdict q names (Some files) v w h k =
    h.is ∙ ap (λ fs. verdict_of q fs) (all_named files names h.files_are k.files_are h.are k.are) ∙ sym k.is

abbrev pub IsRefused : Named → Type 0
IsRefused (opened o) = ⊥
IsRefused f = Unit {0}

refused_here : (i : ℕ) (f : Named) (fs : List Named) → IsRefused f → refusal i (f ∷ fs) ≡ refusal i (f ∷ [])
refused_here i absent fs h = refl
refused_here i no_file fs h = refl
refused_here i (opened o) fs h = absurd h

-- the first file that can't be read
pub first_refused : (files : Contents) (names : List (List ℕ)) (k i : ℕ) (before : List Opened) (name : List ℕ) (f : Named) (fs : List Named) → AreNamed files (take k names) (map (λ o. opened o) before) → slice_get names k ≡ Some name → IsNamed (files name) f → IsRefused f → AreNamed files names fs → refusal i fs ≡ refusal (i + k) (f ∷ [])
first_refused files [] k i before name f fs are at is refused all = absurd (cc)
first_refused files (n ∷ ns) k i before name f [] are at is refused all = absurd all
first_refused files (n ∷ ns) zero i before name f (g ∷ gs) are at is refused all =
    let same : n ≡ name = cc in
    let here : IsNamed (files name) g = subst (λ (m : List ℕ). IsNamed (files m) g) same all.0 in
    let e : g ≡ f = one_named (files name) g f here is in
    let p : i + zero ≡ i = omega arith in
    ap (λ (x : Named). refusal i (x ∷ gs)) e ∙ refused_here i f gs refused ∙ ap (λ (m : ℕ). refusal m (f ∷ [])) (sym p)
first_refused files (n ∷ ns) (suc k) i [] name f (g ∷ gs) are at is refused all = absurd are
first_refused files (n ∷ ns) (suc k) i (o ∷ os) name f (g ∷ gs) are at is refused all =
    let e : g ≡ opened o = one_named (files n) g (opened o) all.0 are.0 in
    let p : suc i + k ≡ i + suc k = omega arith in
    ap (λ (x : Named). refusal i (x ∷ gs)) e ∙ first_refused files ns k (suc i) os name f gs are.1 at is refused all.1 ∙ ap (λ (m : ℕ). refusal m (f ∷ [])) p

pub no_refusal : (i : ℕ) (os : List Opened) → refusal i (map (λ o. opened o) os) ≡ None
no_refusal i [] = refl
no_refusal i (o ∷ os) = no_refusal (suc i) os

abbrev pub all_blocks : List Opened → List Block
all_blocks os = blocks_from 0 (map (λ o. opened o) os)

-- all files can be read
pub scans : (q : Query) (files : Contents) (names : List (List ℕ)) (os : List Opened) (v : Verdict) → AreNamed files names (map (λ o. opened o) os) → FindsInFiles q names files v → v ≡ scan (wanted q (all_blocks os)) (skipped q (all_blocks os))
scans q files names os v are found =
    let fs = map (λ o. opened o) os in
    let all = all_named files names found.files_are fs found.are are in
    found.is ∙ ap (λ l. verdict_of q l) all ∙ ap (λ o. unwrap_or o (scan (wanted q (blocks_from 0 fs)) (skipped q (blocks_from 0 fs)))) (no_refusal 0 os)

-- one more file that can be read
pub named_more : (files : Contents) (names : List (List ℕ)) (i : ℕ) (os : List Opened) (name : List ℕ) (o : Opened) → AreNamed files (take i names) (map (λ x. opened x) os) → slice_get names i ≡ Some name → IsNamed (files name) (opened o) → AreNamed files (take (suc i) names) (map (λ x. opened x) (os ++ o ∷ []))
named_more files [] i os name o are at is = absurd (cc)
named_more files (n ∷ ns) zero [] name o are at is = let same : name ≡ n = cc in (subst (λ (m : List ℕ). IsNamed (files m) (opened o)) same is, tt)
named_more files (n ∷ ns) zero (p ∷ os) name o are at is = absurd are
named_more files (n ∷ ns) (suc i) [] name o are at is = absurd are
named_more files (n ∷ ns) (suc i) (p ∷ os) name o are at is = (are.0, named_more files ns i os name o are.1 at is)

pub named_count : (files : Contents) (names : List (List ℕ)) (fs : List Named) → AreNamed files names fs → length fs ≡ length names
named_count files [] [] h = refl
named_count files [] (f ∷ fs) h = absurd h
named_count files (n ∷ ns) [] h = absurd h
named_count files (n ∷ ns) (f ∷ fs) h = ap suc (named_count files ns fs h.1)

pub blocks_more : (i : ℕ) (os : List Opened) (o : Opened) → blocks_from i (map (λ x. opened x) (os ++ o ∷ [])) ≡ blocks_from i (map (λ x. opened x) os) ++ blocks_of (i + length os) o
blocks_more i [] o = let e : i + 0 ≡ i = omega arith in append-nil (blocks_of i o) ∙ ap (λ (m : ℕ). blocks_of m o) (sym e)
blocks_more i (p ∷ os) o =
    let e : suc i + length os ≡ i + suc (length os) = omega arith in
    ap (λ (l : List Block). blocks_of i p ++ l) (blocks_more (suc i) os o ∙ ap (λ (m : ℕ). blocks_from (suc i) (map (λ x. opened x) os) ++ blocks_of m o) e)
    ∙ sym (append_assoc (blocks_of i p) (blocks_from (suc i) (map (λ x. opened x) os)) (blocks_of (i + suc (length os)) o))
