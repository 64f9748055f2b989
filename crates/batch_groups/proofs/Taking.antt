-- A row that is taken.
use Rattle.std.proofs.Common.{◌≡◌, ℕ, zero, suc, ◌+◌, ◌<◌, ◌≤◌, List, [], ◌∷◌, ◌++◌, length, map, take, Bool, true, false, Option, None, Some, refl, sym, ap, subst, ◌∙◌, arith, length-append, add-one}
use Rattle.std.specs.Prelude.{slice_get, All, OnOk, Result, Ok, Err}
use Rattle.value_meaning.specs.Val.{Val}
use Rattle.agg_laws.specs.declared.seen.Seen.{Seen}
use Rattle.agg_laws.specs.Shows.{Shows}
use Rattle.hash_agg.specs.Groups.{Keyed, GroupsStandFor, partials_at}
use Rattle.hash_agg.specs.Items.{ShowsAll, alone_all}
use Rattle.hash_agg.specs.Held.{Held}
use Rattle.hash_agg.specs.Adds.{Joins, only_at}
use Rattle.hash_agg.proofs.Standing.{adding}
use Rattle.std.proofs.lemmas.List.{length-map}
use Rattle.tree_meaning.specs.declared.AggName.{AggName}
use Rattle.program_meaning.specs.Registers.{State, value_at, lane_of, after}
use Rattle.program_meaning.specs.Jobs.{Job}
use Rattle.block_lines.specs.RowLines.{registers_on}
use Rattle.batch_groups.specs.Keyed.{operand_at, keyed_row, count_keys}
use Rattle.batch_groups.specs.Gathered.{Gathered, StandFor, AreOf, IsPrintableKeyed, Grew}
use Rattle.std.proofs.lemmas.List.Elements.{All-append, All-cons, All-nil}
use Rattle.group_out.specs.Summaries.{IsPrintable}
use Rattle.batch_groups.proofs.Counting.{count_before}

pub shows_more : (items : List Seen) (vs : List Val) (x : Seen) (v : Val) → ShowsAll items vs → Shows x v → ShowsAll (items ++ x ∷ []) (vs ++ v ∷ [])
shows_more [] [] x v h s = (s, tt)
shows_more [] (w ∷ vs) x v h s = absurd h
shows_more (y ∷ items) [] x v h s = absurd h
shows_more (y ∷ items) (w ∷ vs) x v h s = (h.0, shows_more items vs x v h.1 s)

pub as_many : (items : List Seen) (vs : List Val) → ShowsAll items vs → length items ≡ length vs
as_many [] [] h = refl
as_many [] (v ∷ vs) h = absurd h
as_many (x ∷ items) [] h = absurd h
as_many (x ∷ items) (v ∷ vs) h = let e = as_many items vs h.1 in omega arith

-- one more of what is made of a list
pub taken : {A B : Type 0} (f : A → B) (xs : List A) (i : ℕ) (x : A) → Some x ≡ slice_get xs i → take i (map f xs) ++ f x ∷ [] ≡ take (i + 1) (map f xs)
taken {A = A} f xs i x h = on xs i h ∙ ap (λ n. take n (map f xs)) (sym (add-one i))
  where
    on : (ys : List A) (j : ℕ) → Some x ≡ slice_get ys j → take j (map f ys) ++ f x ∷ [] ≡ take (suc j) (map f ys)
    on [] j e = absurd (cc)
    on (y ∷ ys) zero e = let same : x ≡ y = cc in ap (λ z. f z ∷ []) same
    on (y ∷ ys) (suc j) e = ap (λ l. f y ∷ l) (on ys j e)

pub of_one_more : (old new : Held) (count : ℕ) (keys : List Val) (items : List Seen) (operands : List Val) → AreOf old count → count < 35_184_372_088_832 → length items ≡ length old.names → ShowsAll items operands
    → Joins (only_at keys (alone_all old.names items)) old new → All IsPrintable keys → All IsPrintable operands → AreOf new (count + 1)
of_one_more old new count keys items operands h below long shows joins k o =
    let r : Keyed = (keys, operands) in
    let l = length-append h.rows (r ∷ []) in
    let s = h.short in
    let own : IsPrintableKeyed r = record { keys = k; operands = o } in
    record {
      few = omega arith;
      rows = h.rows ++ r ∷ [];
      short = omega arith;
      stand = adding old new keys items operands h.rows long shows joins h.stand;
      printable = All-append IsPrintableKeyed h.rows (r ∷ []) h.printable (All-cons IsPrintableKeyed r [] own (All-nil IsPrintableKeyed));
    }

-- as many are shown as there are aggregates
pub one_each : (items : List Seen) (s : State) (aggs own : List (AggName × Option ℕ)) (names : List AggName) → ShowsAll items (map (operand_at s) aggs) → aggs ≡ own → names ≡ map (λ (a : AggName × Option ℕ). a.0) own → length items ≡ length names
one_each items s aggs own names h e n =
    as_many items (map (operand_at s) aggs) h ∙ length-map aggs (operand_at s) ∙ ap length e ∙ sym (length-map own (λ (a : AggName × Option ℕ). a.0)) ∙ ap length (sym n)

-- once there were too many keys, there are
pub still_over : (limit : ℕ) (xs more : List Keyed) → limit < count_keys xs → limit < count_keys (xs ++ more)
still_over limit xs more h = let k = count_before xs more in omega arith

pub over_takes : (s : Gathered) (job : Job) (rows : List Val) → s.over ≡ true → Grew s s job rows
over_takes s job rows e = record {
  names = refl;
  limit = refl;
  stand = λ xs h. subst (λ b. StandFor s.groups b (xs ++ map (keyed_row job) rows)) (sym e) (still_over s.groups.limit xs (map (keyed_row job) rows) (subst (λ b. StandFor s.groups b xs) e h));
}

-- the registers in the lane of a row
pub keyed_there : (job : Job) (row : Val) (s : State) (o : Option Val) → o ≡ Some row → s ≡ after (lane_of o) job.program
    → (keys operands : List Val) → keys ≡ map (value_at s) job.ends.groups → operands ≡ map (operand_at s) job.ends.aggs → (keys, operands) ≡ keyed_row job row
keyed_there job row s o e h keys operands k l =
    let same : s ≡ registers_on job row = h ∙ ap (λ (p : Option Val). after (lane_of p) job.program) e in
    let keys_are : keys ≡ map (value_at (registers_on job row)) job.ends.groups = k ∙ ap (λ (t : State). map (value_at t) job.ends.groups) same in
    let operands_are : operands ≡ map (operand_at (registers_on job row)) job.ends.aggs = l ∙ ap (λ (t : State). map (operand_at t) job.ends.aggs) same in
    λ i. (keys_are i, operands_are i)

pub on_ok_all : {T E X : Type 0} (P Q : X → Type 0) (r : Result T E) → ((x : X) → P x → OnOk r (Q x)) → OnOk r ((x : X) → P x → Q x)
on_ok_all P Q (Ok v) h = h
on_ok_all P Q (Err e) h = tt

pub on_ok_then : {T E P Q : Type 0} (r : Result T E) → (P → Q) → OnOk r P → OnOk r Q
on_ok_then (Ok v) f h = f h
on_ok_then (Err e) f h = tt

-- a row was added
pub took : {T E : Type 0} (r : Result T E) (old new : Gathered) (job : Job) (row : Val) (keyed : Keyed) → keyed ≡ keyed_row job row → new.groups.names ≡ old.groups.names → new.groups.limit ≡ old.groups.limit → old.over ≡ false
    → ((rows : List Keyed) → GroupsStandFor old.groups.names old.groups.entries rows → OnOk r (StandFor new.groups new.over (rows ++ keyed ∷ []))) → OnOk r (Grew old new job (row ∷ []))
took r old new job row keyed e names limit within h =
    on_ok_then r
    (λ f. record {
      names = names;
      limit = limit;
      stand = λ xs s. subst (λ k. StandFor new.groups new.over (xs ++ k ∷ [])) e (f xs (subst (λ b. StandFor old.groups b xs) within s));
    })
    (on_ok_all (GroupsStandFor old.groups.names old.groups.entries) (λ rows. StandFor new.groups new.over (rows ++ keyed ∷ [])) r h)
