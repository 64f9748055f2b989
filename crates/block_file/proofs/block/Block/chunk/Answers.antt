use Rattle.std.proofs.Common.{◌≡◌, ◌+◌, ◌-◌, ℕ, List, length, take, drop, min, ap, subst, sym, ◌∙◌, arith}
use Rattle.std.proofs.lemmas.List.{length-map, length-take-le, length-drop}
use Rattle.value_meaning.specs.Val.{Val}
use Rattle.ion_cells.specs.Shown.{shown}
use Rattle.block_file.specs.Chunks.{AreCellsOf}
use Rattle.block_file.proofs.Lanes.{lanes_hold, lanes_long}
use Rattle.block_file.proofs.block.Block.chunk.Goals as goal

abbrev Seen : Type 0
Seen = List (List ℕ) × List Val

pub returns-clause-cells : goal.returns-clause-cells
returns-clause-cells c =
    let rows = c.self.inside.rows.items in
    let first = c.args.first in
    let count = c.min-count.result in
    let piece = take (first + count - first) (drop first c.deref.result.now) in
    let many : length c.args.self.now.1 ≡ length rows = ap (λ (p : Seen). length p.1) (sym c.self.view_is) ∙ length-map rows (shown c.self.inside.table) in
    let counted : count ≡ min (length rows - first) 16 = omega arith in
    let width : first + count - first ≡ count = omega arith in
    let cut : piece ≡ take count (drop first rows) = (λ i. take (width i) (drop first (c.deref.ensures.value i))) in
    let long : length piece ≡ count = ap length cut ∙ length-take-le count (drop first rows) (omega (arith, length-drop first rows)) in
    let hold = lanes_hold c.self.inside.table rows c.lanes_of.result piece first count c.of_rows.result c.self.invariant.rows counted cut c.lanes_of.ensures.cells long c.of_rows.ensures in
    subst (λ (p : Seen). AreCellsOf p.0 (take 16 (drop first p.1)) c.of_rows.result) c.self.view_is hold

pub returns-clause-long : goal.returns-clause-long
returns-clause-long c =
    let rows = c.self.inside.rows.items in
    let many : length c.args.self.now.1 ≡ length rows = ap (λ (p : Seen). length p.1) (sym c.self.view_is) ∙ length-map rows (shown c.self.inside.table) in
    ap length c.of_rows.ensures ∙ lanes_long c.lanes_of.result c.min-count.result c.lanes_of.ensures.long (omega arith) ∙ omega arith
