-- The lines of blocks that were made apart, and what slots hold of them.
use Rattle.std.proofs.Common.{◌≡◌, ◌≢◌, ℕ, suc, take, append_assoc, ◌+◌, ◌/◌, ◌<◌, true, false, Option, Some, None, List, [], ◌∷◌, ◌++◌, length, All, set, get_or, refl, sym, ap, ◌∙◌, subst, arith, length-append}
use Rattle.std.specs.Prelude.{slice_get, IfSome}
use Rattle.std.proofs.lemmas.List.{get_or-set_same, get_or-set_other, length-set}
use mathlib.Core.Logic.{dite}
use native.Mathlib.Decide.{dec_lt}
use Rattle.snel_device.specs.Causes.{raised}
use Rattle.value_meaning.specs.Val.{Val}
use Rattle.program_meaning.specs.Jobs.{Job}
use Rattle.block_lines.specs.RowLines.{lines_of}
use Rattle.scan_core.specs.Times.{times}
use Rattle.scan_core.specs.Board.{claimed}
use Rattle.scan_core.specs.declared.view.ScanView.{ScanView}
use Rattle.scan_core.proofs.Keeping.{times-append}
use Rattle.scan_files.specs.Places.{Held}
use Rattle.worker_merge.specs.Hands.{AddsOf}
use Rattle.worker_merge.specs.Draws.{Looked}
use Rattle.worker_merge.specs.Pieces.{IsOwn, IsPiece, AreOwn}
use Rattle.worker_merge.specs.declared.piece.Piece.{Piece}
use Rattle.worker_merge.proofs.Counting.{one_there}
use Rattle.worker_merge.proofs.More.{take_one}

-- a block's lines and counts, behind what is there
pub behind : (job : Job) (n : ℕ) (o : Option (List Val)) (own old new : List (List ℕ)) (c k e f d m : ℕ)
    → AddsOf (λ x y j rows. y ≡ x ++ lines_of j rows) job n o true [] own 0 c 0 k → new ≡ old ++ own → d ≡ raised e c → m ≡ raised f k
    → AddsOf (λ x y j rows. y ≡ x ++ lines_of j rows) job n o true old new e d f m
behind job n (Some rows) own old new c k e f d m h is js ks = let p = h.chunks_are in let q = h.kept_are in record {
  grew_by = is ∙ ap (λ (l : List (List ℕ)). old ++ l) h.grew_by;
  chunks_are = omega arith;
  kept_are = omega arith;
}
behind job n None own old new c k e f d m h is js ks = absurd h

-- a seat that has drawn a block goes on, and has claimed it
pub goes_on : (u v : ScanView) (n : ℕ) → Looked (claimed u n) v → u.ended ≡ false → v.ended ≡ false
goes_on u v n drew going = ap (λ (w : ScanView). w.ended) drew ∙ going

pub has_claimed : (u v : ScanView) (n : ℕ) → Looked (claimed u n) v → 0 < times n v.claims
has_claimed u v n drew = let e = ap (λ (w : ScanView). times n w.claims) drew in omega (arith, times-append n u.claims (n ∷ []), one_there n)

module _ (job : Job) (fields : List (List ℕ)) (hs : List Held) where
  -- no slot holds anything
  pub none_own : (slots : List (Option Piece)) → length slots ≡ length hs → All (λ o. o ≡ None) slots → AreOwn job fields hs slots
  none_own slots count none = record { count = count; own = λ i d lt. subst (IsOwn job fields hs i) (sym (none i d lt)) (λ h at. tt) }

  -- a slot is filled anew, or emptied
  pub set_own : (slots : List (Option Piece)) (n : ℕ) (o : Option Piece) → IsOwn job fields hs n o → AreOwn job fields hs slots → AreOwn job fields hs (set slots n o)
  set_own slots n o is own = record {
    count = length-set slots n o ∙ own.count;
    own = λ i d lt. at i d (let e = length-set slots n o in omega arith);
  }
    where
      here : (i : ℕ) (d : Option Piece) → i < length slots → i ≡ n → IsOwn job fields hs i (get_or (set slots n o) i d)
      here i d lt e = subst (λ (k : ℕ). IsOwn job fields hs k (get_or (set slots n o) k d)) (sym e) (subst (IsOwn job fields hs n) (sym (get_or-set_same slots n o d (omega arith))) is)

      other : (i : ℕ) (d : Option Piece) → i < length slots → i ≢ n → IsOwn job fields hs i (get_or (set slots n o) i d)
      other i d lt differ = subst (IsOwn job fields hs i) (sym (get_or-set_other slots n i o d differ)) (own.own i d lt)

      at : (i : ℕ) (d : Option Piece) → i < length slots → IsOwn job fields hs i (get_or (set slots n o) i d)
      at i d lt = dite (dec_lt i n) (λ less. other i d lt (λ e. absurd (omega arith))) (λ not_less. dite (dec_lt n i) (λ more. other i d lt (λ e. absurd (omega arith))) (λ not_more. here i d lt (omega arith)))

  -- a slot past the end
  pub past_own : (n : ℕ) → IsOwn job fields hs n None
  past_own n h at = tt

-- a line more of another's lines
pub appended : (now new old other : List (List ℕ)) (i : ℕ) (line : List ℕ) → now ≡ old ++ take i other → new ≡ now ++ line ∷ [] → slice_get other i ≡ Some line → new ≡ old ++ take (i + 1) other
appended now new old other i line so_far is at =
    let e : suc i ≡ i + 1 = omega arith in
    is ∙ ap (λ (l : List (List ℕ)). l ++ line ∷ []) so_far ∙ append_assoc old (take i other) (line ∷ []) ∙ ap (λ (l : List (List ℕ)). old ++ l) (sym (take_one other i line at))
    ∙ ap (λ (k : ℕ). old ++ take k other) e
