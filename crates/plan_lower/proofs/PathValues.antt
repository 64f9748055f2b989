-- Literals and paths.
use Rattle.std.proofs.Common.{◌≡◌, ℕ, ◌+◌, ◌<◌, refl, ap, sym, subst, ◌∙◌, arith, List, [], ◌∷◌, ◌++◌, map, take, Some, Result, IfOk}
use Rattle.std.proofs.lemmas.List.{map-append}
use Rattle.std.specs.Prelude.{slice_get}
use Rattle.value_meaning.specs.Val.{Val}
use Rattle.tree_meaning.specs.Tree.{Step, lit, path}
use Rattle.eval_meaning.specs.Evaluation.{eval}
use Rattle.eval_meaning.specs.Paths.{step_of, path_of}
use Rattle.program_meaning.specs.Instructions.{Instr}
use Rattle.program_meaning.specs.Instructions as instr
use Rattle.program_meaning.specs.Programs.{mask_count}
use Rattle.program_meaning.specs.Registers.{after, value_at}
use Rattle.plan_lower.specs.Emitting.{IsBegun, Emits, Applies}
use Rattle.plan_lower.proofs.Items.{take_more}
use Rattle.plan_lower.proofs.LiveLanes.{row_shown}
use Rattle.plan_lower.proofs.Showing.{if_ok, value_known, Grows, IsNumbered, put_shows, shows_same, shows_here, shows_behind}

pub literal_emitted : {E : Type 0} (result : Result ℕ E) (old new : List Instr) (m : ℕ) (v w : Val) → w ≡ v → Grows result old new (instr.const m w) → IsNumbered result old (instr.const m w)
    → IfOk result (λ r. Emits old new (lit v) m r)
literal_emitted result old new m v w same g n =
    if_ok result (λ r h. shows_same old new m r (λ l. w) (λ l. v) (λ l inside. same) h) (put_shows result old new (instr.const m w) m (λ l. w) refl (λ l. refl) g n)

-- a path begins at the row
pub row_computed : (old : List Instr) (m : ℕ) → IsBegun old m → Emits old old (path 0 []) m 0
row_computed old m begun =
    shows_here old m 0 (λ l. l.pair.row) (value_known (instr.all ∷ instr.root 0 ∷ []) old 0 begun.begins (omega arith)) (λ l inside. row_shown l old m begun.begins inside)

-- a path with one step more
path_more : (ss : List Step) (s : Step) (v : Val) → path_of (ss ++ s ∷ []) v ≡ step_of s (path_of ss v)
path_more [] s v = refl
path_more (t ∷ ss) s v = path_more ss s (step_of t v)

module _ {S : Type 0} (view : S → Step) where
  pub path_goes_on : (old mid new : List Instr) (m a r : ℕ) (steps : List S) (k : ℕ) (s : S) → m < mask_count old → slice_get steps k ≡ Some s
      → Emits old mid (path 0 (map view (take k steps))) m a → Applies mid new (step_of (view s)) m a r → Emits old new (path 0 (map view (take (k + 1) steps))) m r
  path_goes_on old mid new m a r steps k s known at at' j =
      let so_far = map view (take k steps) in
      let more : map view (take (k + 1) steps) ≡ so_far ++ view s ∷ [] = ap (map view) (take_more steps k s at) ∙ map-append view (take k steps) (s ∷ []) in
      subst (λ ss. Emits old new (path 0 ss) m r) (sym more)
      (shows_behind old mid new m r (λ l. step_of (view s) (value_at (after l mid) a)) (λ l. eval (path 0 (so_far ++ view s ∷ [])) l.pair) known at'.extends
      (λ l inside. ap (step_of (view s)) (at'.value l inside) ∙ sym (path_more so_far (view s) l.pair.row))
      j)
