-- The lines of single blocks, which workers make apart and which are put behind each other.
use Rattle.std.specs.Prelude.{◌≡◌, ℕ, ◌<◌, true, Option, Some, IfSome, List, [], ◌++◌, length, slice_get, slice_index_or}
use Rattle.value_meaning.specs.Val.{Val}
use Rattle.program_meaning.specs.Jobs.{Job}
use Rattle.block_lines.specs.RowLines.{lines_of}
use Rattle.scan_core.specs.Board.{empty_view}
use Rattle.scan_board.specs.declared.board.Board.{Board}
use Rattle.scan_board.specs.Seats.{BelongsTo, view_of}
use Rattle.scan_meaning.specs.Blocks.{Block, good_rows}
use Rattle.scan_files.specs.Places.{Held, block_held}
use Rattle.worker_merge.specs.Hands.{HandsInOrder, AddsOf}
use Rattle.worker_merge.specs.declared.piece.Piece.{Piece}
use Rattle.worker_merge.specs.declared.collecting.Collector.{Collector}

-- None of the blocks is bad, the lines of their rows that pass were added in order, and their chunks and these rows were counted. Counts
-- stand still at their end.
abbrev pub HandsLines : Job → List Block → List (List ℕ) → List (List ℕ) → ℕ → ℕ → ℕ → ℕ → Type 0
HandsLines job bs old new c d k l = HandsInOrder (λ a b j rows. b ≡ a ++ lines_of j rows) job bs old new c d k l

-- the lines of a block that is good, and what was run over it
abbrev pub IsPieceOf : Job → Block → Piece → Type 0
IsPieceOf job b p = AddsOf (λ x y j rows. y ≡ x ++ lines_of j rows) job b.place.entry.rows (good_rows b) true [] p.lines 0 p.ran.chunks 0 p.ran.kept

-- a worker with a seat of the board that has drawn nothing
pub record IsIdle (b : Board) (w : Collector) : Type 0 where
  pub belongs : BelongsTo b w.seat
  pub idle : view_of w.seat ≡ empty_view
  pub none : w.pieces.items ≡ []

module _ (job : Job) (fields : List (List ℕ)) (hs : List Held) where
  -- what a slot holds, if anything, are the lines of the block with this number
  abbrev pub IsOwn : ℕ → Option Piece → Type 0
  IsOwn n o = (h : Held) → slice_get hs n ≡ Some h → IfSome o (λ p. IsPieceOf job (block_held fields h) p)

  -- the lines of the block whose number the piece has
  pub record IsPiece (p : Piece) : Type 0 where
    pub there : p.number < length hs
    pub own : IsOwn p.number (Some p)

  -- there is a slot for each block, which holds what is its own, if anything
  pub record AreOwn (slots : List (Option Piece)) : Type 0 where
    pub count : length slots ≡ length hs
    pub own : (i : ℕ) (d : Option Piece) → i < length slots → IsOwn i (slice_index_or slots i d)
