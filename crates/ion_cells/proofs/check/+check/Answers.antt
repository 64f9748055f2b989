use Rattle.std.proofs.Common.{◌∙◌, refl, sym, arith}
use Rattle.block_meaning.specs.CellReading.{blank_table}
use Rattle.ion_cells.proofs.Checks.{past_end, byte_end, no_head, payload_end, payload_none, flat_payload, list_payload, struct_payload, no_room, cells_on, cells_end, pairs_on, pairs_end}
use Rattle.ion_cells.proofs.ShortCells.{whole_end, whole_cut}
use Rattle.ion_cells.proofs.check.+check.Goals as goal

pub are_cells-loop-at-preserved : goal.are_cells-loop-at-preserved
are_cells-loop-at-preserved t c =
    (c.in-Some.ensures.within.1, c.loop-at.invariant.1 ∙ cells_on (blank_table c.args.last) c.args.room c.args.bytes.now c.loop-at.at c.loop-at-test.true c.in-Some.end c.in-Some.ensures.within.0 c.in-Some.ensures.within.1 c.in-Some.ensures.end)

pub are_cells-returns-in-None : goal.are_cells-returns-in-None
are_cells-returns-in-None t c =
    sym (c.loop-at.invariant.1 ∙ cells_end (blank_table c.args.last) c.args.room c.args.bytes.now c.loop-at.at c.loop-at-test.true c.in-None.ensures.end)

pub are_pairs-loop-at-preserved : goal.are_pairs-loop-at-preserved
are_pairs-loop-at-preserved t c =
    (c.in-Some.ensures.within.1, c.loop-at.invariant.1 ∙ pairs_on (blank_table c.args.last) c.args.room c.args.bytes.now c.loop-at.at c.loop-at-test.true c.loop-at.low c.in-Some.label c.in-Some.end c.in-Some.ensures.within.0 c.in-Some.ensures.within.1 c.in-Some.ensures.end)

pub are_pairs-returns-in-None : goal.are_pairs-returns-in-None
are_pairs-returns-in-None t c =
    sym (c.loop-at.invariant.1 ∙ pairs_end (blank_table c.args.last) c.args.room c.args.bytes.now c.loop-at.at c.loop-at-test.true c.loop-at.low (sym c.in-None.ensures.end))

pub check_to-returns-then-at-bytes-clause-end : goal.check_to-returns-then-at-bytes-clause-end
check_to-returns-then-at-bytes-clause-end t c = past_end (blank_table c.args.last) c.args.room c.args.bytes.now c.args.at c.if-at-bytes.true

pub check_to-returns-then-end-bytes-clause-end : goal.check_to-returns-then-end-bytes-clause-end
check_to-returns-then-end-bytes-clause-end t c =
    let short = c.if-is_short_whole.ensures.0 refl in
    rw c.from.ensures (whole_end (blank_table c.args.last) c.args.room c.args.bytes.now c.args.at (omega (arith, c.if-at-bytes.false)) short.0 short.1 (λ k. omega (arith, c.type_inv.bytes k)) (omega (arith, c.from.ensures, c.if-end-bytes.true)))

pub check_to-returns-else-end-bytes-clause-end : goal.check_to-returns-else-end-bytes-clause-end
check_to-returns-else-end-bytes-clause-end t c =
    let short = c.if-is_short_whole.ensures.0 refl in
    whole_cut (blank_table c.args.last) c.args.room c.args.bytes.now c.args.at (omega (arith, c.if-at-bytes.false)) short.0 short.1 (omega (arith, c.from.ensures, c.if-end-bytes.false))

pub check_to-returns-then-is_one_byte-clause-end : goal.check_to-returns-then-is_one_byte-clause-end
check_to-returns-then-is_one_byte-clause-end t c =
    byte_end (blank_table c.args.last) c.args.room c.args.bytes.now c.args.at c.if-at-bytes.false (sym c.if-is_one_byte.ensures)

pub check_to-returns-in_err-head-clause-end : goal.check_to-returns-in_err-head-clause-end
check_to-returns-in_err-head-clause-end t c =
    rw c.from_residual.ensures (no_head (blank_table c.args.last) c.args.room c.args.bytes.now c.args.at c.if-at-bytes.false (sym c.if-is_one_byte.ensures) (sym c.in_err-head.ensures.head))

pub check_to-returns-then-is_payload-clause-end : goal.check_to-returns-then-is_payload-clause-end
check_to-returns-then-is_payload-clause-end t c =
    payload_end (blank_table c.args.last) c.args.room c.args.bytes.now c.args.at c.if-at-bytes.false (sym c.if-is_one_byte.ensures) c.in_ok-head.head.kind c.in_ok-head.head.count c.in_ok-head.head.start (sym c.in_ok-head.ensures.head) (sym c.if-is_payload.ensures)

pub check_to-returns-else-is_payload-clause-end : goal.check_to-returns-else-is_payload-clause-end
check_to-returns-else-is_payload-clause-end t c =
    payload_none (blank_table c.args.last) c.args.room c.args.bytes.now c.args.at c.if-at-bytes.false (sym c.if-is_one_byte.ensures) c.in_ok-head.head.kind c.in_ok-head.head.count c.in_ok-head.head.start (sym c.in_ok-head.ensures.head) (sym c.if-is_payload.ensures)

pub is_payload-returns-then-room-eq0 : goal.is_payload-returns-then-room-eq0
is_payload-returns-then-room-eq0 t c =
    rw (no_room (blank_table c.args.last) c.args.room c.args.kind c.args.payload.now c.if-room-eq0.true) c.is_scalar.ensures

pub is_payload-returns-then-kind-eq-LIST : goal.is_payload-returns-then-kind-eq-LIST
is_payload-returns-then-kind-eq-LIST t c =
    c.are_cells.ensures ∙ list_payload (blank_table c.args.last) c.args.room c.args.kind c.args.payload.now c.if-kind-eq-LIST.true (omega arith)

pub is_payload-returns-then-kind-eq-STRUCT : goal.is_payload-returns-then-kind-eq-STRUCT
is_payload-returns-then-kind-eq-STRUCT t c =
    c.are_pairs.ensures ∙ struct_payload (blank_table c.args.last) c.args.room c.args.kind c.args.payload.now c.if-kind-eq-STRUCT.true (omega arith)

pub is_payload-returns-else-kind-eq-STRUCT : goal.is_payload-returns-else-kind-eq-STRUCT
is_payload-returns-else-kind-eq-STRUCT t c =
    rw (flat_payload (blank_table c.args.last) c.args.room c.args.kind c.args.payload.now c.if-kind-eq-LIST.false c.if-kind-eq-STRUCT.false) c.is_scalar-else-kind-eq-STRUCT.ensures
