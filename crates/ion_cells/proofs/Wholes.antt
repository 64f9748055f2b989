-- The first bytes of bytes that are one cell.
use Rattle.std.proofs.Common.{◌≡◌, ℕ, ◌-◌, ◌≤◌, true, List, [], length, drop, Some, sym, ap, ◌∙◌, arith, length-drop}
use Rattle.block_meaning.specs.CellReading.{cell_value, is_cell, blank_table}
use Rattle.block_meaning.proofs.Answered.{some_is, none_is}
use Rattle.block_meaning.proofs.LastSymbol.{length_blank}
use Rattle.ion_cells.specs.declared.tag.Tag.{Tag}
use Rattle.ion_cells.specs.Tags.{opening, Opens}
use Rattle.ion_cells.specs.Left.{behind_cell}
use Rattle.ion_cells.proofs.Going.{behind_is}
use Rattle.ion_cells.proofs.Openings.{found, nothing, behind_lost, opening_fits, behind_of}
use Rattle.ion_cells.proofs.Stands.{legal_read}

module _ (last : ℕ) (bytes : List ℕ) (legal : is_cell (blank_table last) bytes ≡ true) where
  nothing_behind : behind_cell bytes ≡ Some []
  nothing_behind = behind_is (blank_table last) 128 bytes (cell_value (blank_table last) bytes, []) (legal_read (blank_table last) last bytes legal (length_blank last))

  pub is_opened : nothing ≡ opening bytes → ⊥
  is_opened e = none_is _ (behind_lost bytes e ∙ nothing_behind)

  pub whole_opens : (tag : Tag) (start end : ℕ) → start ≤ length bytes → found tag (end - start) (drop start bytes) ≡ opening bytes → Opens tag start bytes
  whole_opens tag start end within e =
      let n = end - start in
      let fits = opening_fits bytes tag n (drop start bytes) (sym e) in
      let ended : length (drop n (drop start bytes)) ≡ 0 = ap length (some_is _ _ (behind_of bytes tag n (drop start bytes) (sym e) ∙ nothing_behind)) in
      let same : n ≡ length bytes - start = omega (arith, fits, ended, length-drop n (drop start bytes), length-drop start bytes) in
      sym e ∙ ap (λ (k : ℕ). found tag k (drop start bytes)) same
