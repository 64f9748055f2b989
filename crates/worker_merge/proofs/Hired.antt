-- Workers that were hired, before and after they scanned.
use Rattle.std.proofs.Common.{◌≡◌, ℕ, ◌<◌, List, length, All, subst, arith, get_or}
use Rattle.value_meaning.specs.Val.{Val}
use Rattle.program_meaning.specs.Jobs.{Job}
use Rattle.scan_board.specs.declared.board.Board.{Board}
use Rattle.scan_files.specs.Places.{Held}
use Rattle.worker_merge.specs.declared.workers.Worker.{Worker}
use Rattle.worker_merge.specs.Draws.{IsReady, IsFresh, HasScanned, IsDone}

module _ {S : Type 0} (begins : S → S → Type 0) where
  pub all_ready : (root : S) (b : Board) (ws : List (Worker S)) → All (IsFresh begins root b) ws → All (IsReady b) ws
  all_ready root b ws fresh i d lt = (fresh i d lt).ready

  pub all_take : (takes : S → Type 0) (root : S) → ((empty : S) → begins root empty → takes empty) → (b : Board) (ws : List (Worker S)) → All (IsFresh begins root b) ws → All (λ w. takes w.sink) ws
  all_take takes root each b ws fresh i d lt = each (get_or ws i d).sink (fresh i d lt).begins_so

  pub all_done : (grew : S → S → Job → List Val → Type 0) (root : S) (job : Job) (fields : List (List ℕ)) (hs : List Held) (b : Board) (old lent new : List (Worker S)) → lent ≡ old → length new ≡ length old
      → All (IsFresh begins root b) old → ((i : ℕ) (d : Worker S) → i < length lent → HasScanned grew job fields hs b (get_or lent i d) (get_or new i d)) → All (IsDone grew job fields hs begins root b) new
  all_done grew root job fields hs b old lent new same count fresh each i d lt =
      let within : i < length old = omega arith in
      let scanned = subst (λ (l : List (Worker S)). (k : ℕ) (e : Worker S) → k < length l → HasScanned grew job fields hs b (get_or l k e) (get_or new k e)) same each i d within in
      record {
        belongs = scanned.belongs;
        empty = (get_or old i d).sink;
        begins_so = (fresh i d within).begins_so;
        tells = scanned.tells;
      }
