use Rattle.std.proofs.Common.{◌≢◌, ℕ, refl, sym, ap, ◌∙◌, Some, arith}
use Rattle.ion_cells.specs.Shown.{shown}
use Rattle.ion_cells.proofs.Finding.{none_passed, cell_legal, stands_label, value_here, none_here, one_passed, all_passed, front_found}
use Rattle.ion_cells.proofs.find.find_label.Goals as goal

pub loop-at-init : goal.loop-at-init
loop-at-init c = (omega arith, none_passed c.args.last c.args.first c.args.bytes.now c.args.label c.requires)

pub unreachable-requires : goal.unreachable-requires
unreachable-requires c =
    front_found c.args.last c.args.first c.args.bytes.now c.args.label c.loop-at.at c.loop-at.invariant.1 c.loop-at-test.true c.in_default.ensures.front

pub of_bytes-requires : goal.of_bytes-requires
of_bytes-requires c =
    let at = c.in-Some in
    cell_legal c.args.last c.args.first c.args.bytes.now c.args.label c.loop-at.at c.loop-at.invariant.1 at.next at.start at.end at.ensures.within.1 at.ensures.front

pub returns-then-next-label : goal.returns-then-next-label
unfolding shown
returns-then-next-label c =
    let at = c.in-Some in
    record {
      fits = c.of_bytes.ensures.last;
      stands = λ table h. rw c.of_bytes.ensures.bytes (stands_label c.args.last c.args.first c.args.bytes.now c.args.label c.loop-at.at c.loop-at.invariant.1 at.next at.start at.end at.ensures.within.1 at.ensures.front c.if-next-label.true table h);
      value = λ table h name is. rw c.of_bytes.ensures.bytes (sym (value_here c.args.last c.args.first c.args.bytes.now c.args.label c.loop-at.at c.loop-at.invariant.1 at.next at.start at.end at.ensures.within.1 at.ensures.front c.if-next-label.true table h name is));
    }

pub returns-then-next-label-2 : goal.returns-then-next-label-2
returns-then-next-label-2 c =
    let at = c.in-Some in
    record {
      fits = tt;
      stands = λ table h. tt;
      value = λ table h name is. sym (none_here c.args.last c.args.first c.args.bytes.now c.args.label c.loop-at.at c.loop-at.invariant.1 at.next at.start at.end at.ensures.within.1 at.ensures.front (omega arith) table h name is);
    }

pub loop-at-preserved : goal.loop-at-preserved
loop-at-preserved c =
    let at = c.in-Some in
    (at.ensures.within.2, one_passed c.args.last c.args.first c.args.bytes.now c.args.label c.loop-at.at c.loop-at.invariant.1 at.next at.start at.end at.ensures.within.1 at.ensures.front c.if-next-label.false)

pub returns : goal.returns
returns c =
    record {
      fits = tt;
      stands = λ table h. tt;
      value = λ table h name is. sym (all_passed c.args.last c.args.first c.args.bytes.now c.args.label c.loop-at.at c.loop-at.invariant.1 (omega arith) table h name is);
    }
