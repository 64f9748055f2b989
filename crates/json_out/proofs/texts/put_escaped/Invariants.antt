use Rattle.json_out.proofs.Runs.{HasRun}
use Rattle.json_out.proofs.texts.put_escaped.Given as goal

abbrev pub invariant-loop-at : goal.invariant-loop-at
invariant-loop-at l = HasRun l.initial.into l.into l.text l.from l.at
