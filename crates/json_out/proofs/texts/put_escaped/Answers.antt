use Rattle.std.proofs.Common.{◌∙◌}
use Rattle.json_out.proofs.Runs.{run_goes_on, run_begins}
use Rattle.json_out.proofs.texts.put_escaped.Goals as goal
use Rattle.json_out.proofs.texts.put_escaped.Goals.{then-not-is_plain+in_ok-push_all+in_ok-put_escape, else-not-is_plain}

pub loop-at-preserved : goal.loop-at-preserved
loop-at-preserved c =
    elim c.if-not-is_plain.branch [
      | then-not-is_plain+in_ok-push_all+in_ok-put_escape w ↦
          let next = w.into-is ∙ w.in_ok-put_escape.ensures in
          rw w.from-is (run_begins c.args.into.now c.loop-at.into w.push_all.new.self c.if-not-is_plain.into c.args.text.now c.loop-at.from c.loop-at.at c.loop-at.invariant c.loop-at-test.true w.in_ok-push_all.ensures.ok next)
      | else-not-is_plain w ↦
          let plain = c.is_plain.ensures w.if-not-is_plain.false in
          rw (w.from-is, w.into-is) (run_goes_on c.args.into.now c.loop-at.into c.args.text.now c.loop-at.from c.loop-at.at c.loop-at.invariant c.loop-at-test.true plain)
    ]
