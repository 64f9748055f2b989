-- The rows of groups are those of the groups of a query.
use Rattle.std.proofs.Common.{◌≡◌, ℕ, zero, suc, ◌+◌, ◌<◌, ◌≤◌, List, [], ◌∷◌, length, map, Bool, true, false, cond, Option, None, Some, refl, sym, ap, subst, ◌∙◌, arith, pos}
use Rattle.std.specs.Prelude.{All, is_some}
use Rattle.std.specs.List.{filter}
use Rattle.std.specs.Option.{option_map}
use Rattle.std.proofs.lemmas.List.{length-map}
use Rattle.std.proofs.lemmas.List.Elements.{All-tail}
use Rattle.value_meaning.specs.Val.{Val, missing, int}
use Rattle.tree_meaning.specs.declared.AggName.{AggName}
use Rattle.tree_meaning.specs.declared.AggName.TheVariants as aggs
use Rattle.tree_meaning.specs.Tree.{Ex, lit, path, neg, no, bin, is, member, between, matching, choice, cast, call, trunc, extract, shift, agg_of_rows, agg, Query}
use Rattle.check_meaning.specs.Aggregates.{aggregates, is_grouped}
use Rattle.eval_meaning.specs.Evaluation.{eval}
use Rattle.eval_meaning.specs.Pair.{Pair, alone}
use Rattle.eval_meaning.specs.Passed.{passed}
use Rattle.agg_meaning.specs.Aggregates.{aggregate}
use Rattle.agg_meaning.specs.Keys.{same_keys}
use Rattle.agg_meaning.specs.Partials.{Partial}
use Rattle.agg_meaning.proofs.Keys.{same_keys-exact, same_keys-same}
use Rattle.made_meaning.specs.OverGroups.{values_on, aggregate_value}
use Rattle.program_meaning.specs.Registers.{State, value_at}
use Rattle.program_meaning.specs.Jobs.{Job, IsAggregate}
use Rattle.program_meaning.specs.Simulation.{if_grouped, aggregate_form, operand_on, Simulates, ShowsNamed}
use Rattle.block_lines.specs.RowLines.{registers_on, keeps, kept_rows}
use Rattle.block_lines.proofs.Simulated.{keeps_is, kept_map}
use Rattle.hash_agg.specs.Groups.{Keyed, Entry, first, rest, has_keys, group_of, aggregates_of, partials_of, values_of, group_partials, partials_at, AreApart, GroupsStandFor}
use Rattle.hash_agg.specs.Finished.{row_of}
use Rattle.hash_agg.proofs.GroupLaws.{values_are_aggregates}
use Rattle.hash_agg.proofs.Places.{by_test, hit, miss}
use Rattle.batch_groups.specs.Keyed.{operand_at, keyed_row}
use Rattle.batch_groups.specs.OfQuery.{operand_or_missing, operand_value, keyed_pair, keyed_pairs, row_of_keys, AreGroupRows, IsWithin}
use Rattle.hash_agg.specs.Held.{Held}
use Rattle.batch_groups.specs.Gathered.{Gathered, StandFor}
use Rattle.batch_groups.proofs.Counting.{keys_of, entries_permute, count_is}
use Rattle.batch_groups.proofs.Rooms.{there}

-- the row of each entry is that of its keys
pub rows_are : (names : List AggName) (rows : List Keyed) (es : List Entry) → AreApart es → ((ks : List Val) (ss : List Partial) → partials_at ks es ≡ Some ss → Some ss ≡ group_partials names (group_of ks rows))
    → map (row_of names) es ≡ map (row_of_keys names rows) (keys_of es)
rows_are names rows [] a h = refl
rows_are names rows (e ∷ es) a h =
    let found : partials_at e.0 (e ∷ es) ≡ Some e.1 = hit e.0 e es (same_keys-same e.0) in
    let are : e.1 ≡ partials_of names (group_of e.0 rows) = there names (group_of e.0 rows) e.1 (h e.0 e.1 found) in
    let values : row_of names e ≡ row_of_keys names rows e.0 = λ i. (e.0, (ap (values_of names) are ∙ values_are_aggregates names (group_of e.0 rows)) i) in
    let later = rows_are names rows es a.1 (λ ks ss f. by_test (same_keys ks e.0)
    (λ t. let same = same_keys-exact ks e.0 t in let none : partials_at ks es ≡ None = ap (λ l. partials_at l es) same ∙ a.0 in absurd (cc))
    (λ t. h ks ss (miss ks e es t ∙ f))) in
    λ i. values i ∷ later i

pub are_group_rows : (names : List AggName) (rows : List Keyed) (es : List Entry) → AreApart es → GroupsStandFor names es rows → AreGroupRows names rows (map (row_of names) es)
are_group_rows names rows es a stand = record {
  keys = keys_of es;
  permutes = entries_permute names es rows a stand;
  is = rows_are names rows es a (λ ks ss f. sym f ∙ stand ks);
}

-- the groups that are held, and those that are shown
pub finished : (g : Gathered) (held : Held) (made : List (List Val × List Val)) (rows : List Keyed) → held ≡ g.groups → g.over ≡ false → AreApart held.entries → length held.entries ≤ held.limit → made ≡ map (row_of held.names) held.entries
    → StandFor g.groups g.over rows → IsWithin g.groups.limit g.groups.names rows made
finished g held made rows e within apart few rows_is stand =
    let stands : GroupsStandFor held.names held.entries rows = subst (λ (h : Held). GroupsStandFor h.names h.entries rows) (sym e) (subst (λ b. StandFor g.groups b rows) within stand) in
    let many = count_is held.names held.entries rows apart stands in
    let own : IsWithin held.limit held.names rows (map (row_of held.names) held.entries) = record { few = omega arith; made_of = are_group_rows held.names rows held.entries apart stands } in
    subst (λ (h : Held). IsWithin h.limit h.names rows made) e (subst (IsWithin held.limit held.names rows) (sym rows_is) own)

-- the operands that registers show are the values of the aggregates' operands
operands_are : (s : State) (p : Pair) (ends : List (AggName × Option ℕ)) (es : List Ex) → map (λ (a : AggName × Option ℕ). Some (a.0, option_map (value_at s) a.1)) ends ≡ map (operand_on p) es
    → map (operand_at s) ends ≡ map (operand_value p) es
operands_are s p [] [] h = refl
operands_are s p [] (e ∷ es) h = absurd (cc)
operands_are s p (a ∷ ends) [] h = absurd (cc)
operands_are s p ((name, o) ∷ ends) (e ∷ es) h =
    let head : Some (name, option_map (value_at s) o) ≡ operand_on p e = cc in
    let later = operands_are s p ends es (cc) in
    λ i. (one o ∙ ap operand_or_missing head) i ∷ later i
  where
    one : (o : Option ℕ) → operand_at s (name, o) ≡ operand_or_missing (Some (name, option_map (value_at s) o))
    one None = refl
    one (Some r) = refl

pub grouped_are : {A : Type 0} (q : Query) (xs : List A) → is_grouped q ≡ true → if_grouped q xs ≡ xs
grouped_are q xs h = rw h refl

-- what a job that simulates a grouped query makes of its rows
module _ (job : Job) (q : Query) (simulates : Simulates job q) (grouped : is_grouped q ≡ true) where
  keyed_is : (row : Val) → keeps job row ≡ true → keyed_row job row ≡ keyed_pair q (alone row)
  keyed_is row k =
      let s = simulates.shows (alone row) (sym (keeps_is job q simulates row) ∙ k) in
      let keys = s.groups ∙ ap (λ es. map (λ (e : Ex). eval e (alone row)) es) (grouped_are q q.keys grouped) in
      let operands = operands_are (registers_on job row) (alone row) job.ends.aggs (aggregates q) (s.aggs ∙ ap (λ es. map (operand_on (alone row)) es) (grouped_are q (aggregates q) grouped)) in
      λ i. (keys i, operands i)

  pub keyed_are : (rows : List Val) → map (keyed_row job) (kept_rows job rows) ≡ keyed_pairs q rows
  keyed_are rows = kept_map job q simulates (keyed_row job) (keyed_pair q) keyed_is rows
