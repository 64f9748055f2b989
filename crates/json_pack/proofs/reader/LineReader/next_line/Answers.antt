use Rattle.std.proofs.Common.{arith, sym, subst, false}
use Rattle.pack_meaning.specs.Splitting.{HasNoEnd}
use Rattle.json_pack.specs.Reading.{unread, TakesFront}
use Rattle.json_pack.proofs.Reading.{as_far, last_told, line_found, bare_found, line_grows, line_long}
use Rattle.json_pack.proofs.reader.LineReader.next_line.Goals as goal

pub returns-in-Ok-false-clause-line : goal.returns-in-Ok-false-clause-line
returns-in-Ok-false-clause-line g c =
    last_told _ _ c.refill.new.self.line.items (unread c.refill.new.self) _ (as_far _ _ _ _ _ c.loop-self.invariant.taken c.in-Ok-false.ensures.ahead c.refill.ensures.line)
    (c.in-Ok-false.ensures.at_end c.in-Ok-false.field-0-test) (c.in-Ok-false.ensures.none c.in-Ok-false.field-0-test) (subst HasNoEnd (sym c.refill.ensures.line) c.loop-self.invariant.bare) c.last_line.ensures.some

pub returns-in-Ok-true-take_front-clause-line : goal.returns-in-Ok-true-take_front-clause-line
returns-in-Ok-true-take_front-clause-line g c =
    line_found _ _ c.refill.new.self.line.items c.take_front.new.self.line.items (unread c.refill.new.self) (unread c.take_front.new.self) _
    (as_far _ _ _ _ _ c.loop-self.invariant.taken c.in-Ok-true.ensures.ahead c.refill.ensures.line) (subst HasNoEnd (sym c.refill.ensures.line) c.loop-self.invariant.bare)
    (subst (λ found. TakesFront found (unread c.refill.new.self) (unread c.take_front.new.self) c.refill.new.self.line.items c.take_front.new.self.line.items) c.in-Ok-true-take_front.field-0-test c.in-Ok-true-take_front.ensures.taken)
    (omega (arith, c.len-in-Ok-true-take_front.ensures, c.take_front.new.self.line.ok))

pub returns-in-Ok-true-take_front-clause-bare : goal.returns-in-Ok-true-take_front-clause-bare
returns-in-Ok-true-take_front-clause-bare g c = bare_found _ _ _ c.refill.new.self.line.items _ c.in-Ok-true-take_front.ensures.taken (subst HasNoEnd (sym c.refill.ensures.line) c.loop-self.invariant.bare)

pub loop-self-preserved : goal.loop-self-preserved
loop-self-preserved g c =
    let taken = subst (λ found. TakesFront found (unread c.refill.new.self) (unread c.take_front.new.self) c.refill.new.self.line.items c.take_front.new.self.line.items) c.in-Ok-false-take_front.field-0-test c.in-Ok-false-take_front.ensures.taken in
    record {
      ready = c.in-Ok-false-take_front.ensures.ready;
      taken = line_grows _ _ c.refill.new.self.line.items c.take_front.new.self.line.items (unread c.refill.new.self) (unread c.take_front.new.self)
          (as_far _ _ _ _ _ c.loop-self.invariant.taken c.in-Ok-true.ensures.ahead c.refill.ensures.line) taken;
      bare = bare_found false (unread c.refill.new.self) (unread c.take_front.new.self) c.refill.new.self.line.items _ taken (subst HasNoEnd (sym c.refill.ensures.line) c.loop-self.invariant.bare);
      later = omega (arith, c.refill.ensures.fault.later, c.loop-self.invariant.later);
    }

pub returns-clause-line : goal.returns-clause-line
returns-clause-line g c =
    line_long _ _ c.loop-self.self.line.items (unread c.loop-self.self) _ c.loop-self.invariant.taken c.loop-self.invariant.bare (omega (arith, c.loop-self-test.false, c.len.ensures, c.loop-self.self.line.ok)) (omega (arith, c.len-2.ensures, c.loop-self.self.line.ok))
