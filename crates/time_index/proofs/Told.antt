-- What a reader of an index learns from what files tell of one file.
use Rattle.std.proofs.Common.{◌≡◌, ◌↔◌, ℕ, ◌+◌, ◌-◌, ◌≤◌, List, length, take, drop, Option, Some, None, refl, sym, ap, ◌∙◌, subst, arith}
use Rattle.std.specs.Prelude.{IsSome, IsSomeAnd}
use Rattle.std.specs.Option.{ForSome, option_and_then}
use Rattle.snel_device.specs.Contents.{Contents}
use Rattle.file_meaning.specs.Files.{Entry, IsFile, tail_bytes}
use Rattle.file_meaning.specs.Files.{SpellsIndex}
use Rattle.file_meaning.specs.Reading.{gap_in, index_in, index_before, file_in, index_cost}
use Rattle.file_meaning.proofs.Spelled.{file_reads}
use Rattle.file_meaning.proofs.Believed.{HasRead, file_of_parts}
use Rattle.time_index.specs.Answers.{Knows, IsNoFile, Costs}

both_of : (o : Option (List ℕ)) (P Q : List ℕ → Type 0) → IsSomeAnd o P → IsSomeAnd o Q → IsSomeAnd o (λ b. P b × Q b)
both_of None P Q p q = p
both_of (Some b) P Q p q = (p, q)

pub both : (told : Option Contents) (name : List ℕ) (P Q : List ℕ → Type 0) → Knows told name P → Knows told name Q → Knows told name (λ b. P b × Q b)
both told name P Q p q = λ files e. both_of (files name) P Q (p files e) (q files e)

then_of : (o : Option (List ℕ)) (P Q : List ℕ → Type 0) → IsSomeAnd o P → ((b : List ℕ) → P b → Q b) → IsSomeAnd o Q
then_of None P Q p f = p
then_of (Some b) P Q p f = f b p

-- what is known follows
pub therefore : (told : Option Contents) (name : List ℕ) (P Q : List ℕ → Type 0) → Knows told name P → ((b : List ℕ) → P b → Q b) → Knows told name Q
therefore told name P Q p f = λ files e. then_of (files name) P Q (p files e) f

is_there : (o : Option (List ℕ)) (P : List ℕ → Type 0) → IsSomeAnd o P → IsSome o
is_there None P h = absurd h
is_there (Some b) P h = refl

pub there : (told : Option Contents) (name : List ℕ) (P : List ℕ → Type 0) → Knows told name P → ForSome told (λ files. IsSome (files name))
there told name P known = λ files e. is_there (files name) P (known files e)

not_none : (o : Option (List ℕ)) → IsSome o → o ≡ None → ⊥
not_none None h e = cc
not_none (Some b) h e = cc

-- where the file is there, an answer that isn't given says nothing else
pub not_absent : (told : Option Contents) (name : List ℕ) (answer : Type 0) → (answer → ⊥) → ForSome told (λ files. IsSome (files name)) → ForSome told (λ files. answer ↔ (files name ≡ None))
not_absent told name answer never is = λ files e. (λ a. absurd (never a), λ none. absurd (not_none (files name) (is files e) none))

-- a file of this length whose tail names no place of an index is no block file
no_gap_of : (b : List ℕ) → gap_in (length b - 12) (drop (length b - 12) b) ≡ None → IsNoFile b
unfolding file_in
no_gap_of b none = λ f es file.
    let reads = file_reads b f es file in
    let never = ap (option_and_then (index_before (length b - 12) b)) none in
    absurd (cc)

pub no_gap : (told : Option Contents) (name : List ℕ) (size : ℕ) (tail : List ℕ) → Knows told name (λ b. size ≡ length b) → Knows told name (λ b. tail ≡ drop (size - 12) b) → gap_in (size - 12) tail ≡ None → Knows told name IsNoFile
no_gap told name size tail sized tailed none =
    therefore told name (λ b. (size ≡ length b) × (tail ≡ drop (size - 12) b)) IsNoFile (both told name (λ b. size ≡ length b) (λ b. tail ≡ drop (size - 12) b) sized tailed)
    (λ b k. no_gap_of b (subst (λ n. gap_in (n - 12) (drop (n - 12) b) ≡ None) k.0 (ap (gap_in (size - 12)) (sym k.1) ∙ none)))

-- what was read of a file of this size: the tail, and the index that it names
pub record Reads (size : ℕ) (tail part : List ℕ) (gap : ℕ) : Type 0 where
  pub enough : 12 ≤ size
  pub within : gap ≤ size - 12
  pub gap_is : gap_in (size - 12) tail ≡ Some gap
  pub long : length part ≡ gap

abbrev pub Sees : ℕ → List ℕ → List ℕ → ℕ → List ℕ → Type 0
Sees size tail part gap b = (size ≡ length b) × (tail ≡ drop (size - 12) b) × (part ≡ take (length part) (drop (size - 12 - gap) b))

sees_gap : (size : ℕ) (tail part : List ℕ) (gap : ℕ) (b : List ℕ) → Reads size tail part gap → Sees size tail part gap b → gap_in (length b - 12) (drop (length b - 12) b) ≡ Some gap
sees_gap size tail part gap b r s =
    subst (λ n. gap_in (n - 12) (drop (n - 12) b) ≡ Some gap) s.0 (ap (gap_in (size - 12)) (sym s.1) ∙ r.gap_is)

no_index_of : (size : ℕ) (tail part : List ℕ) (gap : ℕ) (b : List ℕ) → Reads size tail part gap → Sees size tail part gap b → index_in (size - 12 - gap) part ≡ None → IsNoFile b
unfolding file_in index_before
no_index_of size tail part gap b r s none = λ f es file.
    let reads = file_reads b f es file in
    let part_is = ap (λ k. take k (drop (size - 12 - gap) b)) (sym r.long) ∙ sym s.2 in
    let index : index_before (length b - 12) b gap ≡ None = subst (λ n. index_in (n - 12 - gap) (take gap (drop (n - 12 - gap) b)) ≡ None) s.0 (ap (index_in (size - 12 - gap)) part_is ∙ none) in
    let never = ap (option_and_then (index_before (length b - 12) b)) (sees_gap size tail part gap b r s) ∙ index in
    absurd (cc)

pub sees : (told later : Option Contents) (name : List ℕ) (size : ℕ) (tail part : List ℕ) (gap : ℕ) → later ≡ told → Knows told name (λ b. size ≡ length b) → Knows told name (λ b. tail ≡ drop (size - 12) b) → Knows later name (λ b. part ≡ take (length part) (drop (size - 12 - gap) b)) → Knows told name (Sees size tail part gap)
sees told later name size tail part gap same sized tailed parted =
    let seen : Knows told name (λ b. part ≡ take (length part) (drop (size - 12 - gap) b)) = subst (λ t. Knows t name (λ b. part ≡ take (length part) (drop (size - 12 - gap) b))) same parted in
    therefore told name _ (Sees size tail part gap) (both told name _ _ (both told name _ _ sized tailed) seen) (λ b k. (k.0.0, k.0.1, k.1))

-- a file whose index is none is no block file
pub no_index : (told : Option Contents) (name : List ℕ) (size : ℕ) (tail part : List ℕ) (gap : ℕ) → Reads size tail part gap → Knows told name (Sees size tail part gap) → index_in (size - 12 - gap) part ≡ None → Knows told name IsNoFile
no_index told name size tail part gap r known none =
    therefore told name (Sees size tail part gap) IsNoFile known (λ b s. no_index_of size tail part gap b r s none)

file_of : (size : ℕ) (tail part : List ℕ) (gap : ℕ) (b f : List ℕ) (es : List Entry) → Reads size tail part gap → Sees size tail part gap b → tail ≡ tail_bytes (size - 12 - gap) → SpellsIndex part f es (size - 12 - gap) → IsFile b f es
file_of size tail part gap b f es r s ended index =
    let enough = r.enough in
    let within = r.within in
    let part_is = s.2 ∙ ap (λ k. take k (drop (size - 12 - gap) b)) r.long in
    let size_is = s.0 in
    let read : HasRead b tail part gap = record {
      enough = omega arith;
      within = omega arith;
      tail_is = s.1 ∙ ap (λ n. drop (n - 12) b) s.0;
      part_is = part_is ∙ ap (λ n. take gap (drop (n - 12 - gap) b)) s.0;
    } in
    file_of_parts b tail part gap f es read (ended ∙ ap (λ n. tail_bytes (n - 12 - gap)) s.0) (subst (λ n. SpellsIndex part f es (n - 12 - gap)) s.0 index)

-- a file whose tail and index are spelled is a block file
pub is_file : (told : Option Contents) (name : List ℕ) (size : ℕ) (tail part : List ℕ) (gap : ℕ) (f : List ℕ) (es : List Entry) → Reads size tail part gap → Knows told name (Sees size tail part gap) → tail ≡ tail_bytes (size - 12 - gap) → SpellsIndex part f es (size - 12 - gap) → Knows told name (λ b. IsFile b f es)
is_file told name size tail part gap f es r known ended index =
    therefore told name (Sees size tail part gap) (λ b. IsFile b f es) known (λ b s. file_of size tail part gap b f es r s ended index)

-- what it costs
cost_tail_of : (o : Option (List ℕ)) → IsSome o → 12 ≤ index_cost o
unfolding index_cost
cost_tail_of None h = absurd (cc)
cost_tail_of (Some b) h = omega arith

pub cost_tail : (told : Option Contents) (name : List ℕ) (before now : ℕ) (P : List ℕ → Type 0) → Knows told name P → before ≤ now → now ≤ before + 12 → Costs told name before now
cost_tail told name before now P known later most =
    record { later = later; most = omega arith; cost = λ files e. let least = cost_tail_of (files name) (is_there (files name) P (known files e)) in omega arith }

cost_index_of : (size : ℕ) (tail : List ℕ) (gap : ℕ) (o : Option (List ℕ)) → gap_in (size - 12) tail ≡ Some gap → IsSomeAnd o (λ b. (size ≡ length b) × (tail ≡ drop (size - 12) b)) → 12 + gap ≤ index_cost o
unfolding index_cost
cost_index_of size tail gap None is known = absurd known
cost_index_of size tail gap (Some b) is known =
    let here : gap_in (length b - 12) (drop (length b - 12) b) ≡ Some gap = subst (λ n. gap_in (n - 12) (drop (n - 12) b) ≡ Some gap) known.0 (ap (gap_in (size - 12)) (sym known.1) ∙ is) in
    rw here (omega arith)

pub cost_index : (told : Option Contents) (name : List ℕ) (size : ℕ) (tail : List ℕ) (gap before middle now : ℕ) → gap_in (size - 12) tail ≡ Some gap → gap ≤ 33_554_697 → Knows told name (λ b. size ≡ length b) → Knows told name (λ b. tail ≡ drop (size - 12) b) → before ≤ middle → middle ≤ before + 12 → middle ≤ now → now ≤ middle + gap → Costs told name before now
cost_index told name size tail gap before middle now is short sized tailed first twelve second more =
    let known = both told name (λ b. size ≡ length b) (λ b. tail ≡ drop (size - 12) b) sized tailed in
    record { later = omega arith; most = omega arith; cost = λ files e. let least = cost_index_of size tail gap (files name) is (known files e) in omega arith }
