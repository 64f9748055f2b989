use Rattle.std.proofs.Common.{arith, drop, length-drop}
use Rattle.ion_symtab.proofs.TextsRead.{lent_step, text_stop}
use Rattle.ion_symtab.proofs.texts.texts_of.Goals as goal

pub returns-in-None-clause-bad : goal.returns-in-None-clause-bad
returns-in-None-clause-bad c e =
    text_stop _ _ _ (drop c.loop-at.at c.args.cells.now) c.loop-at.invariant.read c.in-None.ensures.text (omega (arith, length-drop c.loop-at.at c.args.cells.now))

pub loop-at-preserved : goal.loop-at-preserved
loop-at-preserved c = record {
  read =
      lent_step _ c.loop-at.texts.items c.push.new.self.items _ (drop c.loop-at.at c.args.cells.now) c.in-Some.text (drop c.in-Some.end c.args.cells.now) c.loop-at.invariant.read c.in-Some.ensures.text c.in-Ok.ensures.items;
  within = c.in-Some.ensures.within.1;
}
