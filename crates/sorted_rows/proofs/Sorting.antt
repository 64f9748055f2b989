-- Rows of blocks that are gathered and sorted.
use Rattle.std.proofs.Common.{◌≡◌, Bool, false, List, [], map, length, refl, sym, ap, subst, ◌∙◌}
use Rattle.std.specs.List.Sorted.{IsPermutation}
use Rattle.std.proofs.lemmas.List.{length-map}
use Rattle.std.proofs.lemmas.List.Sorted.{IsPermutation-map, IsPermutation-sym}
use Rattle.value_meaning.specs.Val.{Val}
use Rattle.tree_meaning.specs.Tree.{Ex, Query}
use Rattle.check_meaning.specs.Places.{order_ex}
use Rattle.check_meaning.specs.Aggregates.{is_grouped}
use Rattle.program_meaning.specs.Jobs.{Job}
use Rattle.program_meaning.specs.Simulation.{Simulates, if_ungrouped, order_exs}
use Rattle.block_lines.specs.RowLines.{kept_rows, keyed_line, made_keyed}
use Rattle.block_lines.proofs.Simulated.{keyed_are}
use Rattle.scan_meaning.specs.Answers.{falling}
use Rattle.order_limit.specs.Arranged.{Row, IsArranged}
use Rattle.order_limit.specs.Top.{Top, StandsFor, IsEnough}
use Rattle.order_limit.proofs.Standing.{standing_first}
use Rattle.order_limit.proofs.Joining.{stands_permuted}
use Rattle.sorted_rows.specs.Holding.{IsEmptyTop}
use Rattle.sorted_rows.specs.Grown.{GrewBy, HasKeysOf}

module _ (job : Job) (q : Query) (simulates : Simulates job q) (single : is_grouped q ≡ false) where
  -- a flag for each sort key
  pub key_flags : length job.ends.sorts ≡ length (falling q)
  key_flags =
      simulates.sorts
      ∙ ap length (ungrouped (order_exs q))
      ∙ length-map q.order (λ (k : Ex × Bool). order_ex q.outs k.0)
      ∙ sym (length-map q.order (λ (k : Ex × Bool). k.1))
    where
      ungrouped : {A : Type 0} (xs : List A) → if_ungrouped q xs ≡ xs
      ungrouped xs = rw single refl

  module _ (old : Top) (e : IsEmptyTop (falling q) q.skip q.take old) where
    pub has_keys : HasKeysOf old job
    has_keys = key_flags ∙ ap (λ (t : Top). length t.falling) (sym e.are)

    stands_for_none : StandsFor old []
    stands_for_none = subst (λ (t : Top). StandsFor t []) (sym e.are) (standing_first (falling q) e.most)

    module _ (new : Top) (order rows : List Val) (grew : GrewBy old new job order) where
      pub enough_still : IsEnough new.most q.skip q.take
      enough_still = subst (λ n. IsEnough n q.skip q.take) (sym (grew.most ∙ ap (λ (t : Top). t.most) e.are)) e.enough

      flags_still : new.falling ≡ falling q
      flags_still = grew.falling ∙ ap (λ (t : Top). t.falling) e.are

      -- the first rows stand for what the query makes of the rows
      stands_for_made : IsPermutation (kept_rows job rows) order → StandsFor new (made_keyed q rows)
      stands_for_made p =
          let f = keyed_line job in
          let all = IsPermutation-sym (map f (kept_rows job rows)) (map f order) (IsPermutation-map f (kept_rows job rows) order p) in
          subst (λ l. StandsFor new l) (keyed_are job q simulates single rows)
          (stands_permuted new (map f order) (map f (kept_rows job rows)) all (grew.stands [] stands_for_none))

      pub made_sorted : IsPermutation (kept_rows job rows) order → (out : List Row) → ((all : List Row) → StandsFor new all → IsArranged new.falling q.skip q.take all out) → IsArranged (falling q) q.skip q.take (made_keyed q rows) out
      made_sorted p out arranged = subst (λ (fs : List Bool). IsArranged fs q.skip q.take (made_keyed q rows) out) flags_still (arranged (made_keyed q rows) (stands_for_made p))
