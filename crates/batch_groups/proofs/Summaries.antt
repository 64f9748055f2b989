-- The rows of groups are summaries of the groups of a query.
use Rattle.std.proofs.Common.{◌≡◌, ℕ, zero, suc, ◌+◌, ◌<◌, ◌≤◌, List, [], ◌∷◌, length, map, Bool, true, false, cond, Option, None, Some, refl, sym, ap, subst, ◌∙◌, arith, pos}
use Rattle.std.specs.Prelude.{All, is_some, ◌⊎◌}
use Rattle.std.specs.List.{filter, AllZip}
use Rattle.std.specs.List.Sorted.{IsPermutation}
use Rattle.std.proofs.lemmas.List.{length-map}
use Rattle.std.proofs.lemmas.List.Elements.{All-tail}
use Rattle.std.proofs.lemmas.List.Sorted.{IsPermutation-map, IsPermutation-refl, length_permutation}
use Rattle.value_meaning.specs.Val.{Val, missing, int}
use Rattle.tree_meaning.specs.declared.AggName.{AggName}
use Rattle.tree_meaning.specs.declared.AggName.TheVariants as aggs
use Rattle.tree_meaning.specs.Tree.{Ex, lit, path, neg, no, bin, is, member, between, matching, choice, cast, call, trunc, extract, shift, agg_of_rows, agg, Query}
use Rattle.check_meaning.specs.Aggregates.{aggregates, is_grouped}
use Rattle.eval_meaning.specs.Evaluation.{eval}
use Rattle.eval_meaning.specs.Pair.{Pair}
use Rattle.eval_meaning.specs.Passed.{passed}
use Rattle.agg_meaning.specs.Aggregates.{aggregate}
use Rattle.agg_meaning.specs.Keys.{same_keys, with_keys, distinct_keys}
use Rattle.agg_meaning.proofs.Keys.{same_keys-same}
use Rattle.batch_groups.proofs.Counting.{has, has_distinct}
use Rattle.made_meaning.specs.OverGroups.{Group, groups, values_on, aggregate_value}
use Rattle.made_meaning.specs.OverGroups as over
use Rattle.program_meaning.specs.Jobs.{Job, IsAggregate}
use Rattle.program_meaning.specs.Simulation.{aggregate_form}
use Rattle.hash_agg.specs.Groups.{Keyed, first, rest, has_keys, group_of, aggregates_of}
use Rattle.hash_agg.proofs.Places.{by_test}
use Rattle.hash_agg.proofs.GroupLaws.{groups_shuffled}
use Rattle.group_out.specs.Summaries.{Summarizes, AreSummaries}
use Rattle.std.proofs.lemmas.List.{map-append}
use Rattle.batch_groups.specs.Keyed.{count_keys}
use Rattle.batch_groups.specs.OfQuery.{operand_value, keyed_pair, keyed_pairs, row_of_keys, AreGroupRows, IsWithin, FinishesAs, count_groups, AreAllGroups, with_empty_row}
use Rattle.batch_groups.specs.Keyed.{keyed_row}
use Rattle.batch_groups.specs.Gathered.{Gathered, StandFor, Grew, IsEmptyFor}
use Rattle.batch_groups.proofs.Summing.{grouped_are, keyed_are}
use Rattle.batch_groups.proofs.Merged.{none_stand}
use Rattle.batch_groups.proofs.Counting.{count_shuffled}
use Rattle.worker_merge.specs.Growing.{GrewSomehow}
use Rattle.block_lines.specs.RowLines.{kept_rows}
use Rattle.program_meaning.specs.Simulation.{Simulates}
use Rattle.hash_agg.specs.Held.{Held}
use Rattle.std.proofs.lemmas.List.Sorted.{IsPermutation-sym}
use Rattle.program_meaning.specs.Programs.{value_count}

-- an expression with the form of an aggregate is one
abbrev FormIs : Ex → AggName → Bool → Type 0
FormIs e n true = (x : Ex) × (e ≡ agg n x)
FormIs e n false = e ≡ agg_of_rows n

abbrev name_in : AggName → Option (AggName × Bool) → AggName
name_in d None = d
name_in d (Some f) = f.0

abbrev has_operand : Bool → Option (AggName × Bool) → Bool
has_operand d None = d
has_operand d (Some f) = f.1

form_is : (e : Ex) (n : AggName) (b : Bool) → Some (n, b) ≡ aggregate_form e → FormIs e n b
form_is (lit v) n b h = absurd (cc)
form_is (path r ss) n b h = absurd (cc)
form_is (neg e) n b h = absurd (cc)
form_is (no e) n b h = absurd (cc)
form_is (bin o x y) n b h = absurd (cc)
form_is (is w e) n b h = absurd (cc)
form_is (member e es) n b h = absurd (cc)
form_is (between e x y) n b h = absurd (cc)
form_is (matching how e s) n b h = absurd (cc)
form_is (choice r e) n b h = absurd (cc)
form_is (cast c e) n b h = absurd (cc)
form_is (call f es) n b h = absurd (cc)
form_is (trunc p e) n b h = absurd (cc)
form_is (extract p e) n b h = absurd (cc)
form_is (shift p x e) n b h = absurd (cc)
form_is (agg_of_rows m) n true h = let e : true ≡ false = ap (has_operand true) h in absurd (cc)
form_is (agg_of_rows m) n false h = let e : n ≡ m = ap (name_in n) h in ap (λ x. agg_of_rows x) (sym e)
form_is (agg m x) n true h = let e : n ≡ m = ap (name_in n) h in (x, ap (λ y. agg y x) (sym e))
form_is (agg m x) n false h = let e : false ≡ true = ap (has_operand false) h in absurd (cc)

pub map_map : {A B C : Type 0} (f : A → B) (g : B → C) (xs : List A) → map g (map f xs) ≡ map (λ x. g (f x)) xs
map_map f g [] = refl
map_map f g (x ∷ xs) = ap (λ l. g (f x) ∷ l) (map_map f g xs)

module _ (members : List Pair) where
  one_value : (v : ℕ) (name : AggName) (o : Option ℕ) (e : Ex) → IsAggregate v (name, o) → Some (name, is_some o) ≡ aggregate_form e
      → aggregate_value members e ≡ Some (aggregate name (map (λ p. operand_value p e) members))
  one_value v name (Some r) e h f =
      let form = form_is e name true f in
      subst (λ x. aggregate_value members x ≡ Some (aggregate name (map (λ p. operand_value p x) members))) (sym form.1) refl
  one_value v name None e h f =
      let form = form_is e name false f in
      let long : length (map (λ (p : Pair). p.row) members) ≡ length (map (λ (p : Pair). missing) members) = length-map members (λ (p : Pair). p.row) ∙ sym (length-map members (λ (p : Pair). missing)) in
      let same : aggregate name (map (λ (p : Pair). p.row) members) ≡ aggregate name (map (λ (p : Pair). missing) members) =
      ap (λ n. aggregate n (map (λ (p : Pair). p.row) members)) h ∙ ap (λ n. int (pos n)) long ∙ sym (ap (λ n. aggregate n (map (λ (p : Pair). missing) members)) h) in
      subst (λ x. aggregate_value members x ≡ Some (aggregate name (map (λ p. operand_value p x) members))) (sym form) (ap Some same)

  -- the aggregates of the operands are those of the expressions
  values_are : (v : ℕ) (ends : List (AggName × Option ℕ)) (es : List Ex) → All (IsAggregate v) ends → map (λ (a : AggName × Option ℕ). Some (a.0, is_some a.1)) ends ≡ map aggregate_form es
      → map (aggregate_value members) es ≡ map (λ (x : Val). Some x) (aggregates_of (map (λ (a : AggName × Option ℕ). a.0) ends) (map (λ p. map (operand_value p) es) members))
  values_are v [] [] h f = refl
  values_are v [] (e ∷ es) h f = absurd (cc)
  values_are v (a ∷ ends) [] h f = absurd (cc)
  values_are v (a ∷ ends) (e ∷ es) h f =
      let here : Some (a.0, is_some a.1) ≡ aggregate_form e = cc in
      let own : IsAggregate v (a.0, a.1) = h 0 a (omega arith) in
      let now : List (List Val) = map (λ p. map (operand_value p) (e ∷ es)) members in
      let firsts : map first now ≡ map (λ p. operand_value p e) members = map_map (λ p. map (operand_value p) (e ∷ es)) first members in
      let rests : map rest now ≡ map (λ p. map (operand_value p) es) members = map_map (λ p. map (operand_value p) (e ∷ es)) rest members in
      let one = one_value v a.0 a.1 e own here ∙ ap (λ l. Some (aggregate a.0 l)) (sym firsts) in
      let later = values_are v ends es (All-tail (IsAggregate v) a ends h) (cc) ∙ ap (λ l. map (λ (x : Val). Some x) (aggregates_of (map (λ (x : AggName × Option ℕ). x.0) ends) l)) (sym rests) in
      λ i. one i ∷ later i

-- the operands of a group's rows are those of its members
members_are : (q : Query) (ks : List Val) (ps : List Pair) → group_of ks (map (keyed_pair q) ps) ≡ map (λ p. map (operand_value p) (aggregates q)) (filter (λ p. same_keys ks (values_on q.keys p)) ps)
members_are q ks [] = refl
members_are q ks (p ∷ ps) = by_test (same_keys ks (values_on q.keys p))
    (λ t. rw t (ap (λ l. map (operand_value p) (aggregates q) ∷ l) (members_are q ks ps)))
    (λ t. rw t (members_are q ks ps))

module _ (q : Query) (v : ℕ) (ends : List (AggName × Option ℕ)) (are : All (IsAggregate v) ends) (forms : map (λ (a : AggName × Option ℕ). Some (a.0, is_some a.1)) ends ≡ map aggregate_form (aggregates q)) (names : List AggName) (named : names ≡ map (λ (a : AggName × Option ℕ). a.0) ends) (ps : List Pair) where
  -- the row of a list of keys is a summary of its group
  pub summary : (ks : List Val) → Summarizes q (over.group_of q.keys ps ks) (row_of_keys names (map (keyed_pair q) ps) ks)
  summary ks =
      let members = filter (λ p. same_keys ks (values_on q.keys p)) ps in
      record {
        keys = refl;
        aggs = values_are members v ends (aggregates q) are forms ∙ (λ i. map (λ (x : Val). Some x) (aggregates_of (sym named i) (sym (members_are q ks ps) i)));
      }

  pub summaries : (all : List (List Val)) → AreSummaries q (map (over.group_of q.keys ps) all) (map (row_of_keys names (map (keyed_pair q) ps)) all)
  summaries [] = tt
  summaries (ks ∷ all) = (summary ks, summaries all)

  -- without keys, the row of all pairs
  pub whole : q.keys ≡ [] → ps ≡ [] → AreSummaries q (groups q.keys ps) (([], aggregates_of names []) ∷ [])
  whole none nothing = subst (λ es. AreSummaries q (groups es ps) (([], aggregates_of names []) ∷ [])) (sym none)
      (record { keys = refl; aggs = values_are ps v ends (aggregates q) are forms ∙ (λ i. map (λ (x : Val). Some x) (aggregates_of (sym named i) (map (λ p. map (operand_value p) (aggregates q)) (nothing i)))) }, tt)

-- the groups are those of the distinct lists of keys, save that without keys there is one also of no pairs
no_keys : (p : Pair) (ps : List Pair) → distinct_keys (map (values_on []) (p ∷ ps)) ≡ [] ∷ []
no_keys p [] = refl
no_keys p (x ∷ ps) = ap (with_keys []) (no_keys x ps)

all_members : (ps : List Pair) → filter (λ (p : Pair). same_keys [] (values_on [] p)) ps ≡ ps
all_members [] = refl
all_members (p ∷ ps) = ap (λ l. p ∷ l) (all_members ps)

groups_are : (es : List Ex) (ps : List Pair) → (es ≡ [] → ps ≡ [] → ⊥) → groups es ps ≡ map (over.group_of es ps) (distinct_keys (map (values_on es) ps))
groups_are [] [] h = absurd (h refl refl)
groups_are [] (p ∷ ps) h =
    sym (ap (map (over.group_of [] (p ∷ ps))) (no_keys p ps) ∙ ap (λ (l : List Pair). (record { keys = []; members = l }) ∷ []) (all_members (p ∷ ps)))
groups_are (e ∷ es) ps h = refl

none_long : {A : Type 0} (xs : List A) → length xs ≡ 0 → xs ≡ []
none_long [] h = refl
none_long (x ∷ xs) h = absurd (omega arith)

key_lists_are : (q : Query) (ps : List Pair) → map (λ (r : Keyed). r.0) (map (keyed_pair q) ps) ≡ map (values_on q.keys) ps
key_lists_are q ps = map_map (keyed_pair q) (λ (r : Keyed). r.0) ps

pub count_is_groups : (q : Query) (rows : List Val) → count_keys (keyed_pairs q rows) ≡ count_groups q rows
count_is_groups q rows = ap (λ l. length (distinct_keys l)) (key_lists_are q (passed q rows))

-- some keys stand among those of some pairs
some_keys : (keys : List Val) (all : List (List Val)) → length (distinct_keys (keys ∷ all)) ≡ 0 → ⊥
some_keys keys all h =
    let none = none_long (distinct_keys (keys ∷ all)) h in
    let there = has_distinct keys (keys ∷ all) in
    let s = same_keys-same keys in
    let is : has keys (keys ∷ all) ≡ true = rw s refl in
    let no : has keys (distinct_keys (keys ∷ all)) ≡ false = ap (has keys) none in
    absurd (cc)

module _ (q : Query) (v : ℕ) (ends : List (AggName × Option ℕ)) (are : All (IsAggregate v) ends) (forms : map (λ (a : AggName × Option ℕ). Some (a.0, is_some a.1)) ends ≡ map aggregate_form (aggregates q)) (names : List AggName) (named : names ≡ map (λ (a : AggName × Option ℕ). a.0) ends) (rows : List Val) (limit : ℕ) (made : List (List Val × List Val)) (within : IsWithin limit names (keyed_pairs q rows) made) where
  abbrev ps : List Pair
  ps = passed q rows

  few : count_groups q rows ≤ limit
  few = let e = count_is_groups q rows in let h = within.few in omega arith

  by_keys : (q.keys ≡ [] → ps ≡ [] → ⊥) → AreAllGroups q limit rows made
  by_keys h =
      let keys = within.made_of.keys in
      let permute : IsPermutation (distinct_keys (map (values_on q.keys) ps)) keys = subst (λ l. IsPermutation (distinct_keys l) keys) (key_lists_are q ps) within.made_of.permutes in
      record {
        few = few;
        members = map (over.group_of q.keys ps) keys;
        permutes = subst (λ l. IsPermutation l (map (over.group_of q.keys ps) keys)) (sym (groups_are q.keys ps h)) (IsPermutation-map (over.group_of q.keys ps) (distinct_keys (map (values_on q.keys) ps)) keys permute);
        each = subst (AreSummaries q (map (over.group_of q.keys ps) keys)) (sym within.made_of.is) (summaries q v ends are forms names named ps keys);
      }

  -- as many rows as there are lists of keys
  long : length made ≡ length (distinct_keys (map (λ (r : Keyed). r.0) (keyed_pairs q rows)))
  long =
      ap length within.made_of.is ∙ length-map within.made_of.keys (row_of_keys names (keyed_pairs q rows)) ∙ length_permutation (distinct_keys (map (λ (r : Keyed). r.0) (keyed_pairs q rows))) within.made_of.keys within.made_of.permutes

  no_pairs : (l : List Pair) → length (distinct_keys (map (λ (r : Keyed). r.0) (map (keyed_pair q) l))) ≡ 0 → l ≡ []
  no_pairs [] h = refl
  no_pairs (p ∷ l) h = absurd (some_keys (values_on q.keys p) (map (λ (r : Keyed). r.0) (map (keyed_pair q) l)) h)

  no_rows : (l : List Pair) → l ≡ [] → length (distinct_keys (map (λ (r : Keyed). r.0) (map (keyed_pair q) l))) ≡ 0
  no_rows [] h = refl
  no_rows (p ∷ l) h = absurd (cc)

  pub all_groups : (registers : List ℕ) → length registers ≡ length q.keys → AreAllGroups q limit rows (with_empty_row registers names made)
  all_groups [] h = on made refl
    where
      on : (rs : List (List Val × List Val)) → made ≡ rs → AreAllGroups q limit rows (with_empty_row [] names rs)
      on [] e =
          let none : q.keys ≡ [] = none_long q.keys (sym h) in
          let nothing : ps ≡ [] = no_pairs ps (sym long ∙ ap length e) in
          record {
            few = few;
            members = groups q.keys ps;
            permutes = IsPermutation-refl (groups q.keys ps);
            each = whole q v ends are forms names named ps none nothing;
          }
      on (r ∷ rs) e = subst (AreAllGroups q limit rows) e (by_keys (λ _ nothing.
          let zero_long = no_rows ps nothing in
          let l = long in
          let m = ap length e in
          absurd (omega arith)))
  all_groups (r ∷ registers) h = by_keys (λ none nothing. let l = ap length none in absurd (omega arith))

-- the order of the rows is free
stand_shuffled : (g : Held) (over : Bool) (xs ys : List Keyed) → IsPermutation xs ys → StandFor g over xs → StandFor g over ys
stand_shuffled g false xs ys p h = groups_shuffled g.names g.entries xs ys p h
stand_shuffled g true xs ys p h = let e = count_shuffled xs ys p in omega arith

-- groups that were none, and grew by the rows of a query that pass
module _ (q : Query) (job : Job) (empty held : Gathered) (rows : List Val) (simulates : Simulates job q) (grouped : is_grouped q ≡ true) (fresh : IsEmptyFor job empty) (grew : GrewSomehow Grew empty held job (kept_rows job rows)) where
  pub stand_for : StandFor held.groups held.over (keyed_pairs q rows)
  stand_for =
      let own = grew.grew_by.stand [] (none_stand empty fresh.none fresh.within) in
      let p = IsPermutation-map (keyed_row job) (kept_rows job rows) grew.order grew.permutes in
      let all = stand_shuffled held.groups held.over (map (keyed_row job) grew.order) (map (keyed_row job) (kept_rows job rows)) (IsPermutation-sym (map (keyed_row job) (kept_rows job rows)) (map (keyed_row job) grew.order) p) own in
      subst (StandFor held.groups held.over) (keyed_are job q simulates grouped rows) all

  pub makes_rows : (made all : List (List Val × List Val)) → FinishesAs held.groups.limit held.groups.names (keyed_pairs q rows) (Some made) → all ≡ with_empty_row job.ends.groups (map (λ (a : AggName × Option ℕ). a.0) job.ends.aggs) made
      → AreAllGroups q held.groups.limit rows all
  makes_rows made all finishes e =
      let forms = simulates.aggs ∙ ap (map aggregate_form) (grouped_are q (aggregates q) grouped) in
      let long = simulates.groups ∙ ap length (grouped_are q q.keys grouped) in
      let named = grew.grew_by.names ∙ fresh.takes in
      subst (AreAllGroups q held.groups.limit rows) (ap (λ ns. with_empty_row job.ends.groups ns made) named ∙ sym e)
      (all_groups q (value_count job.program) job.ends.aggs simulates.is_job.ends.aggs forms held.groups.names named rows held.groups.limit made finishes job.ends.groups long)

  pub makes_none : FinishesAs held.groups.limit held.groups.names (keyed_pairs q rows) None → held.groups.limit < count_groups q rows
  makes_none h = let e = count_is_groups q rows in omega arith
