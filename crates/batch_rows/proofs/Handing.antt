-- The rows of a batch, handed to a sink behind those of before.
use Rattle.std.proofs.Common.{ℕ, List, [], ◌++◌, sym, ap, subst, ◌∙◌}
use Rattle.std.specs.List.Sorted.{IsPermutation}
use Rattle.std.proofs.lemmas.List.Elements.{filter-append}
use Rattle.std.proofs.lemmas.List.Sorted.{IsPermutation-refl, IsPermutation-append}
use Rattle.snel_device.specs.Causes.{raised}
use Rattle.value_meaning.specs.Val.{Val}
use Rattle.tree_meaning.specs.Tree.{Query}
use Rattle.program_meaning.specs.Jobs.{Job}
use Rattle.program_meaning.specs.Simulation.{Simulates}
use Rattle.block_lines.specs.RowLines.{keeps, kept_rows}
use Rattle.block_lines.proofs.Simulated.{kept_many}
use Rattle.scan_meaning.specs.Blocks.{Block}
use Rattle.scan_meaning.specs.Batches.{rows_of}
use Rattle.scan_batches.specs.Gathers.{Gathers}
use Rattle.worker_merge.specs.Hands.{HandsRows}
use Rattle.batch_rows.specs.Grown.{GrewByRows}

module _ {A : Type 0} (grew : A → A → Job → List Val → Type 0) (job : Job) where
  -- before the first batch
  pub grown_by_none : (s : A) → grew s s job [] → GrewByRows grew s s job []
  grown_by_none s none = record { order = []; permutes = IsPermutation-refl []; grew_by = none }

  pub handed : (both : (a b c : A) (job : Job) (xs ys : List Val) → grew a b job xs → grew b c job ys → grew a c job (xs ++ ys))
      → (q : Query) → Simulates job q → (bs : List Block) (first old new : A) (c d k l : ℕ) → HandsRows grew job bs old new c d k l
      → (rows : List Val) → GrewByRows grew first old job rows → Gathers q bs rows (GrewByRows grew first new job) c d k l
  handed both q simulates bs first old new c d k l hands rows h =
      let more = rows_of bs in
      let p = IsPermutation-append (kept_rows job rows) h.order (kept_rows job more) hands.rows h.permutes hands.permutes in
      record {
        good = hands.good;
        stand = record {
          order = h.order ++ hands.rows;
          permutes = subst (λ l. IsPermutation l (h.order ++ hands.rows)) (sym (filter-append (keeps job) rows more)) p;
          grew_by = both first old new job h.order hands.rows h.grew_by hands.grew_by;
        };
        chunks_are = hands.chunks_are;
        kept_are = hands.kept_are ∙ ap (raised k) (kept_many job q simulates more);
      }
