-- What programs show in the registers that the ends of jobs name.
use Rattle.std.proofs.Common.{◌≡◌, ℕ, ◌+◌, ◌<◌, Bool, true, false, if◌then◌else◌, List, [], ◌∷◌, ◌++◌, map, take, length, All, Option, None, Some, refl, ap, sym, subst, ◌∙◌}
use Rattle.std.specs.Prelude.{slice_get, is_some}
use Rattle.std.specs.Option.{option_map}
use Rattle.std.proofs.lemmas.List.{map-append}
use Rattle.std.proofs.lemmas.List.Elements.{All-head, All-tail, All-push, All-weaker}
use Rattle.value_meaning.specs.Val.{Val}
use Rattle.tree_meaning.specs.declared.AggName.{AggName}
use Rattle.tree_meaning.specs.Tree.{Ex, Query, agg, agg_of_rows}
use Rattle.tree_meaning.specs.WellFormed.{IsFormed}
use Rattle.check_meaning.specs.Names.{names}
use Rattle.check_meaning.specs.Places.{output_exs}
use Rattle.check_meaning.specs.Aggregates.{aggregates, is_grouped}
use Rattle.program_meaning.specs.Instructions.{Instr}
use Rattle.program_meaning.specs.Programs.{mask_count, value_count, Extends}
use Rattle.program_meaning.specs.Registers.{Lane, after, value_at}
use Rattle.program_meaning.specs.Jobs.{IsAggregate}
use Rattle.program_meaning.specs.Simulation.{is_star, if_ungrouped, if_grouped, order_exs, operand_on, aggregate_form}
use Rattle.program_meaning.proofs.Persist.{extends_itself, extends_further, value_stays}
use Rattle.plan_lower.specs.Emitting.{Emits, EmitsAll}
use Rattle.plan_lower.specs.Ends.{names_of, registers_of, EmitsAgg, EmitsAggs, EmitsEnds, row_ends, group_ends}
use Rattle.plan_lower.proofs.Items.{all_nil, take_more}
use Rattle.plan_lower.proofs.Showing.{ap2, value_known, values_known, values_stay, stays_in}

-- a program that goes on shows what it showed
pub all_further : (old mid new : List Instr) (es : List Ex) (m : ℕ) (rs : List ℕ) → EmitsAll old mid es m rs → Extends mid new → EmitsAll old new es m rs
all_further old mid new es m rs h ext = record {
  extends = extends_further old mid new h.extends ext;
  count = h.count;
  made = values_known mid new rs ext h.made;
  values = λ l inside. values_stay l mid new rs ext h.made ∙ h.values l inside;
}

-- what it shows under a mask, it shows where the mask was made before
pub all_later : (old mid new : List Instr) (es : List Ex) (m : ℕ) (rs : List ℕ) → m < mask_count old → Extends old mid → EmitsAll mid new es m rs → EmitsAll old new es m rs
all_later old mid new es m rs known ext h = record {
  extends = extends_further old mid new ext h.extends;
  count = h.count;
  made = h.made;
  values = λ l inside. h.values l (stays_in old mid m known l ext inside);
}

pub none_on : (old new : List Instr) (m : ℕ) → Extends old new → EmitsAll old new [] m []
none_on old new m ext = record { extends = ext; count = refl; made = all_nil (λ (r : ℕ). r < value_count new); values = λ l inside. refl }

-- what a program shows of an aggregate, and whether that has an operand
abbrev shown_in : Lane → List Instr → AggName × Option ℕ → Option (AggName × Option Val)
shown_in l xs a = Some (a.0, option_map (value_at (after l xs)) a.1)

abbrev form_of : AggName × Option ℕ → Option (AggName × Bool)
form_of a = Some (a.0, is_some a.1)

abbrev with_name : AggName → Option Val → Option (AggName × Option Val)
with_name n v = Some (n, v)

-- the same of aggregates
aggregate_known : (old new : List Instr) (a : AggName × Option ℕ) → Extends old new → IsAggregate (value_count old) a → IsAggregate (value_count new) a
aggregate_known old new (n, None) ext h = h
aggregate_known old new (n, Some r) ext h = (h.0, value_known old new r ext h.1)

aggregate_stays : (l : Lane) (old new : List Instr) (a : AggName × Option ℕ) → Extends old new → IsAggregate (value_count old) a → option_map (value_at (after l new)) a.1 ≡ option_map (value_at (after l old)) a.1
aggregate_stays l old new (n, None) ext h = refl
aggregate_stays l old new (n, Some r) ext h = ap (λ v. Some v) (value_stays l old new r ext h.1)

aggregates_stay : (l : Lane) (old new : List Instr) (aggs : List (AggName × Option ℕ)) → Extends old new → All (IsAggregate (value_count old)) aggs → map (shown_in l new) aggs ≡ map (shown_in l old) aggs
aggregates_stay l old new [] ext h = refl
aggregates_stay l old new (a ∷ aggs) ext h =
    ap2 (λ (v : Option (AggName × Option Val)) (vs : List (Option (AggName × Option Val))). v ∷ vs) (ap (with_name a.0) (aggregate_stays l old new a ext (All-head (IsAggregate (value_count old)) a aggs h)))
    (aggregates_stay l old new aggs ext (All-tail (IsAggregate (value_count old)) a aggs h))

pub no_aggregates_on : (old new : List Instr) (m : ℕ) → Extends old new → EmitsAggs old new [] m []
no_aggregates_on old new m ext = record { extends = ext; forms = refl; made = all_nil (IsAggregate (value_count new)); values = λ l inside. refl }

pub aggregates_later : (old mid new : List Instr) (es : List Ex) (m : ℕ) (aggs : List (AggName × Option ℕ)) → m < mask_count old → Extends old mid → EmitsAggs mid new es m aggs → EmitsAggs old new es m aggs
aggregates_later old mid new es m aggs known ext h = record {
  extends = extends_further old mid new ext h.extends;
  forms = h.forms;
  made = h.made;
  values = λ l inside. h.values l (stays_in old mid m known l ext inside);
}

-- an aggregate with an operand, and one without
pub operand_emitted : (old new : List Instr) (n : AggName) (e : Ex) (m r : ℕ) → IsFormed (agg n e) → Emits old new e m r → EmitsAgg old new (agg n e) m (n, Some r)
operand_emitted old new n e m r f h = record {
  extends = h.extends;
  form = refl;
  made = (f.0, h.made);
  value = λ l inside. ap (λ (v : Val). with_name n (Some v)) (h.value l inside);
}

pub rows_emitted : (old : List Instr) (n : AggName) (m : ℕ) → IsFormed (agg_of_rows n) → EmitsAgg old old (agg_of_rows n) m (n, None)
rows_emitted old n m f = record { extends = extends_itself old; form = refl; made = f; value = λ l inside. refl }

-- one more
aggregates_more : (old mid new : List Instr) (es : List Ex) (e : Ex) (m : ℕ) (aggs : List (AggName × Option ℕ)) (a : AggName × Option ℕ) → m < mask_count old → EmitsAggs old mid es m aggs → EmitsAgg mid new e m a → EmitsAggs old new (es ++ e ∷ []) m (aggs ++ a ∷ [])
aggregates_more old mid new es e m aggs a known h k = record {
  extends = extends_further old mid new h.extends k.extends;
  forms =
      map-append form_of aggs (a ∷ [])
      ∙ ap2 (λ (vs : List (Option (AggName × Bool))) (v : Option (AggName × Bool)). vs ++ v ∷ []) h.forms k.form
      ∙ sym (map-append aggregate_form es (e ∷ []));
  made = All-push (IsAggregate (value_count new)) aggs a (All-weaker (IsAggregate (value_count mid)) (IsAggregate (value_count new)) (λ a g. aggregate_known mid new a k.extends g) aggs h.made) k.made;
  values = λ l inside.
      map-append (shown_in l new) aggs (a ∷ [])
      ∙ ap2 (λ (vs : List (Option (AggName × Option Val))) (v : Option (AggName × Option Val)). vs ++ v ∷ []) (aggregates_stay l mid new aggs k.extends h.made ∙ h.values l inside) (k.value l (stays_in old mid m known l h.extends inside))
      ∙ sym (map-append (operand_on l.pair) es (e ∷ []));
}

pub listed_aggregates_more : (old mid new : List Instr) (es : List Ex) (k m : ℕ) (e d : Ex) (aggs more : List (AggName × Option ℕ)) (a : AggName × Option ℕ) → m < mask_count old → slice_get es k ≡ Some e → d ≡ e → more ≡ aggs ++ a ∷ []
    → EmitsAggs old mid (take k es) m aggs → EmitsAgg mid new d m a → EmitsAggs old new (take (k + 1) es) m more
listed_aggregates_more old mid new es k m e d aggs more a known at same is h j =
    subst (λ l. EmitsAggs old new l m more) (sym (take_more es k e at))
    (subst (λ l. EmitsAggs old new (take k es ++ e ∷ []) m l) (sym is)
    (aggregates_more old mid new (take k es) e m aggs a known h (subst (λ x. EmitsAgg mid new x m a) same j)))

-- what stands in a query that isn't grouped, and what in one that is
all_there : {A : Type 0} (q : Query) (xs : List A) → is_grouped q ≡ false → xs ≡ if_ungrouped q xs
all_there q xs h = sym (ap (λ (b : Bool). if b then [] else xs) h)

none_there : {A : Type 0} (q : Query) (xs : List A) → is_grouped q ≡ false → [] ≡ if_grouped q xs
none_there q xs h = sym (ap (λ (b : Bool). if b then xs else []) h)

all_here : {A : Type 0} (q : Query) (xs : List A) → is_grouped q ≡ true → xs ≡ if_grouped q xs
all_here q xs h = sym (ap (λ (b : Bool). if b then xs else []) h)

none_here : {A : Type 0} (q : Query) (xs : List A) → is_grouped q ≡ true → [] ≡ if_ungrouped q xs
none_here q xs h = sym (ap (λ (b : Bool). if b then [] else xs) h)

-- the ends of a query that isn't grouped
pub rows_end : (q : Query) (old mid new : List Instr) (keep : ℕ) (outs : List (List ℕ × ℕ)) (sorts : List ℕ) → is_grouped q ≡ false → keep < mask_count old → names_of outs ≡ names q.outs
    → EmitsAll old mid (output_exs q.outs) keep (registers_of outs) → EmitsAll mid new (order_exs q) keep sorts → EmitsEnds old new q keep (row_ends keep (is_star q.outs) outs sorts)
rows_end q old mid new keep outs sorts ungrouped known titles shown sorted =
    let ext = extends_further old mid new shown.extends sorted.extends in
    record {
      extends = ext;
      keep = refl;
      star = refl;
      grouped = sym ungrouped;
      names = titles ∙ all_there q (names q.outs) ungrouped;
      outs = subst (λ es. EmitsAll old new es keep (registers_of outs)) (all_there q (output_exs q.outs) ungrouped) (all_further old mid new (output_exs q.outs) keep (registers_of outs) shown sorted.extends);
      sorts = subst (λ es. EmitsAll old new es keep sorts) (all_there q (order_exs q) ungrouped) (all_later old mid new (order_exs q) keep sorts known shown.extends sorted);
      groups = subst (λ es. EmitsAll old new es keep []) (none_there q q.keys ungrouped) (none_on old new keep ext);
      aggs = subst (λ es. EmitsAggs old new es keep []) (none_there q (aggregates q) ungrouped) (no_aggregates_on old new keep ext);
    }

-- and of one that is
pub groups_end : (q : Query) (old mid new : List Instr) (keep : ℕ) (groups : List ℕ) (aggs : List (AggName × Option ℕ)) → is_grouped q ≡ true → keep < mask_count old
    → EmitsAll old mid q.keys keep groups → EmitsAggs mid new (aggregates q) keep aggs → EmitsEnds old new q keep (group_ends keep (is_star q.outs) groups aggs)
groups_end q old mid new keep groups aggs grouped known keyed operands =
    let ext = extends_further old mid new keyed.extends operands.extends in
    record {
      extends = ext;
      keep = refl;
      star = refl;
      grouped = sym grouped;
      names = none_here q (names q.outs) grouped;
      outs = subst (λ es. EmitsAll old new es keep []) (none_here q (output_exs q.outs) grouped) (none_on old new keep ext);
      sorts = subst (λ es. EmitsAll old new es keep []) (none_here q (order_exs q) grouped) (none_on old new keep ext);
      groups = subst (λ es. EmitsAll old new es keep groups) (all_here q q.keys grouped) (all_further old mid new q.keys keep groups keyed operands.extends);
      aggs = subst (λ es. EmitsAggs old new es keep aggs) (all_here q (aggregates q) grouped) (aggregates_later old mid new (aggregates q) keep aggs known keyed.extends operands);
    }
