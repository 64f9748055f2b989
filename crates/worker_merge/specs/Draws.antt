-- What workers draw at a board, and what each says of the blocks that it drew.
use Rattle.std.specs.Prelude.{◌≡◌, ℕ, ◌<◌, ◌≤◌, ◌⊎◌, true, false, Option, Some, None, List, [], ◌∷◌, length, slice_get, flat_map, if◌then◌else◌}
use Rattle.value_meaning.specs.Val.{Val}
use Rattle.program_meaning.specs.Jobs.{Job}
use Rattle.scan_core.specs.Times.{times}
use Rattle.scan_core.specs.Board.{lesser, empty_view, claimed, ending, saw_rows, saw_damage}
use Rattle.scan_core.specs.declared.view.ScanView.{ScanView}
use Rattle.scan_board.specs.declared.board.Board.{Board}
use Rattle.scan_board.specs.declared.seat.BoardSeat.{BoardSeat}
use Rattle.scan_board.specs.Seats.{BelongsTo, view_of}
use Rattle.scan_meaning.specs.Blocks.{good_rows}
use Rattle.scan_files.specs.Places.{Held, block_held, blocks_held}
use Rattle.worker_merge.specs.Hands.{HandsInOrder, IsTested}
use Rattle.worker_merge.specs.declared.workers.Worker.{Worker}

-- the block of a number, where there is one
abbrev pub one_held : Option Held → List Held
one_held None = []
one_held (Some h) = h ∷ []

-- the blocks of these numbers
abbrev pub drawn : List Held → List ℕ → List Held
drawn hs claims = flat_map (λ n. one_held (slice_get hs n)) claims

-- the claims of a seat that has ended
abbrev pub ended_claims : BoardSeat → List ℕ
ended_claims s = if (view_of s).ended then (view_of s).claims else []

-- the claims of all seats that have ended
abbrev pub taken : List BoardSeat → List ℕ
taken seats = flat_map ended_claims seats

-- w is v after a look at the board
abbrev pub Looked : ScanView → ScanView → Type 0
Looked v w = w ≡ saw_damage (saw_rows v w.seen_rows) w.seen_damage

-- no block was drawn: none was left, or a block below the one that was drawn is bad
abbrev pub IsLast : ScanView → ScanView → Type 0
IsLast v w = (w ≡ ending v) ⊎ ((n k : ℕ) × Looked (claimed v n) w × (w.seen_damage ≡ Some k) × (k < n))

-- the seat has scanned what it claimed, and met no bad block
pub record IsClean (v : ScanView) : Type 0 where
  pub least : v.least ≡ None
  pub going : v.ended ≡ false
  pub reports : v.reports ≡ length v.claims

-- the least bad block that the seat knows of
abbrev pub known : ScanView → Option ℕ
known v = lesser v.least v.seen_damage

module _ (fields : List (List ℕ)) (hs : List Held) where
  -- the block of this number, if there is one, is good
  abbrev pub IsGoodAt : ℕ → Type 0
  IsGoodAt n = (h : Held) → slice_get hs n ≡ Some h → IsTested (good_rows (block_held fields h)) true

  -- the block of this number is bad
  abbrev pub IsBadAt : ℕ → Type 0
  IsBadAt n = (h : Held) × (slice_get hs n ≡ Some h) × IsTested (good_rows (block_held fields h)) false

  -- The worker of this seat stopped. What it reported is bad, each block that it claimed is good or not below a bad one that it knows
  -- of, and it stopped as no block was left or as it knew of a bad one.
  pub record IsSettled (v : ScanView) : Type 0 where
    pub bad : (d : ℕ) → v.least ≡ Some d → IsBadAt d × (0 < times d v.claims)
    pub claims : (b : ℕ) → 0 < times b v.claims → IsGoodAt b ⊎ ((k : ℕ) × (known v ≡ Some k) × (k ≤ b))
    pub stopped : (v.ended ≡ true) ⊎ ((k : ℕ) × (known v ≡ Some k))

module _ {S : Type 0} where
  -- the worker has a seat of the board, has drawn nothing and has counted nothing
  pub record IsReady (b : Board) (w : Worker S) : Type 0 where
    pub belongs : BelongsTo b w.seat
    pub idle : view_of w.seat ≡ empty_view
    pub no_chunks : w.ran.chunks ≡ 0
    pub no_rows : w.ran.kept ≡ 0

  -- and has a fresh sink of the root's
  pub record IsFresh (begins : S → S → Type 0) (root : S) (b : Board) (w : Worker S) : Type 0 where
    pub ready : IsReady b w
    pub begins_so : begins root w.sink

  module _ (grew : S → S → Job → List Val → Type 0) (job : Job) (fields : List (List ℕ)) (hs : List Held) where
    -- The worker stopped; where no block was left, its sink, which was `empty`, grew by the rows of the blocks that it drew.
    pub record Tells (empty : S) (w : Worker S) : Type 0 where
      pub settled : IsSettled fields hs (view_of w.seat)
      pub hands : (view_of w.seat).ended ≡ true → HandsInOrder grew job (blocks_held fields (drawn hs (view_of w.seat).claims)) empty w.sink 0 w.ran.chunks 0 w.ran.kept

    -- w is the worker v, which was ready, once it has scanned. One that lacked memory tells nothing.
    pub record HasScanned (b : Board) (v w : Worker S) : Type 0 where
      pub belongs : BelongsTo b w.seat
      pub tells : w.lacked ≡ false → Tells v.sink w

    -- the worker, which began with a fresh sink of the root's, has scanned
    pub record IsDone (begins : S → S → Type 0) (root : S) (b : Board) (w : Worker S) : Type 0 where
      pub belongs : BelongsTo b w.seat
      pub empty : S
      pub begins_so : begins root empty
      pub tells : w.lacked ≡ false → Tells empty w
