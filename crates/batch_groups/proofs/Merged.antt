-- Groups of two sinks that are joined.
use Rattle.std.proofs.Common.{◌≡◌, ℕ, ◌+◌, ◌<◌, ◌≤◌, List, [], ◌++◌, length, map, Bool, true, false, refl, sym, ap, subst, ◌∙◌, arith, length-append}
use Rattle.std.specs.Prelude.{OnOk, Result, Ok, Err}
use Rattle.std.proofs.lemmas.List.Sorted.{IsPermutation-refl}
use Rattle.value_meaning.specs.Val.{Val}
use Rattle.program_meaning.specs.Jobs.{Job}
use Rattle.hash_agg.specs.Groups.{Keyed, Entry, GroupsStandFor, partials_at}
use Rattle.hash_agg.specs.Held.{Held}
use Rattle.hash_agg.specs.Adds.{Joins}
use Rattle.hash_agg.proofs.Standing.{joining}
use Rattle.worker_merge.specs.Growing.{GrewSomehow}
use Rattle.batch_groups.specs.Keyed.{keyed_row, count_keys}
use Rattle.batch_groups.specs.Gathered.{Gathered, StandFor, AreOf, IsPrintableKeyed, Grew, Begins}
use Rattle.std.proofs.lemmas.List.Elements.{All-append}
use Rattle.batch_groups.proofs.Counting.{count_behind}
use Rattle.batch_groups.proofs.Taking.{over_takes, on_ok_then, on_ok_all}

pub of_both : (old others new : Held) (count more : ℕ) → AreOf old count → AreOf others more → count + more ≤ 35_184_372_088_832 → old.names ≡ others.names → Joins (λ ks. partials_at ks others.entries) old new → AreOf new (count + more)
of_both old others new count more h k few names joins =
    let l = length-append h.rows k.rows in
    let s = h.short in
    let t = k.short in
    record {
      few = few;
      rows = h.rows ++ k.rows;
      short = omega arith;
      stand = joining old others new h.rows k.rows (sym names) joins h.stand k.stand;
      printable = All-append IsPrintableKeyed h.rows k.rows h.printable k.printable;
    }

-- nothing stands for no rows
pub none_stand : (g : Gathered) → g.groups.entries ≡ [] → g.over ≡ false → StandFor g.groups g.over []
none_stand g none within =
    subst (λ b. StandFor g.groups b []) (sym within) (λ ks. ap (partials_at ks) none)

-- what a fresh sink grew by, it stands for
pub grown_stand : (s empty other : Gathered) (job : Job) (rows : List Val) → Begins s empty → Grew empty other job rows → StandFor other.groups other.over (map (keyed_row job) rows)
grown_stand s empty other job rows begins grew = grew.stand [] (none_stand empty begins.none begins.within)

in_order : (old new : Gathered) (job : Job) (rows : List Val) → Grew old new job rows → GrewSomehow Grew old new job rows
in_order old new job rows h = record { order = rows; permutes = IsPermutation-refl rows; grew_by = h }

module _ (old empty other : Gathered) (job : Job) (rows : List Val) (begins : Begins old empty) (grew : Grew empty other job rows) where
  -- there were too many keys before
  pub joins_over : old.over ≡ true → GrewSomehow Grew old old job rows
  joins_over e = in_order old old job rows (over_takes old job rows e)

  -- there were too many keys among the others
  pub joins_much : other.over ≡ true → (new : Gathered) → new.groups ≡ old.groups → new.over ≡ true → GrewSomehow Grew old new job rows
  joins_much e new same f =
      let much : other.groups.limit < count_keys (map (keyed_row job) rows) = subst (λ b. StandFor other.groups b (map (keyed_row job) rows)) e (grown_stand old empty other job rows begins grew) in
      let limit : other.groups.limit ≡ old.groups.limit = grew.limit ∙ begins.limit in
      let limits : new.groups.limit ≡ old.groups.limit = ap (λ (g : Held). g.limit) same in
      in_order old new job rows (record {
        names = ap (λ (g : Held). g.names) same;
        limit = limits;
        stand = λ xs h. let k = count_behind xs (map (keyed_row job) rows) in subst (λ b. StandFor new.groups b (xs ++ map (keyed_row job) rows)) (sym f) (omega arith);
      })

  -- neither
  pub joins_both : {T E : Type 0} (r : Result T E) → other.over ≡ false → old.over ≡ false → (new : Gathered) → new.groups.names ≡ old.groups.names → new.groups.limit ≡ old.groups.limit
      → ((xs ys : List Keyed) → GroupsStandFor old.groups.names old.groups.entries xs → GroupsStandFor other.groups.names other.groups.entries ys → OnOk r (StandFor new.groups new.over (xs ++ ys)))
      → OnOk r (GrewSomehow Grew old new job rows)
  joins_both r e f new names limit h =
      let ys = map (keyed_row job) rows in
      let others = subst (λ b. StandFor other.groups b ys) e (grown_stand old empty other job rows begins grew) in
      on_ok_then r
      (λ k. in_order old new job rows (record {
        names = names;
        limit = limit;
        stand = λ xs s. k xs (subst (λ b. StandFor old.groups b xs) f s);
      }))
      (on_ok_all (GroupsStandFor old.groups.names old.groups.entries) (λ xs. StandFor new.groups new.over (xs ++ ys)) r (λ xs s. h xs ys s others))
