use Rattle.std.proofs.Common.{◌≡◌, ◌++◌, ◌∷◌, [], ℕ, List, ap, sym, ◌∙◌, append_assoc, add-one}
use Rattle.worker_merge.proofs.More.{take_one}
use Rattle.worker_merge.proofs.Apart.{appended}
use Rattle.worker_merge.proofs.in_order.append_lines.Goals as goal

pub loop-at-preserved : goal.loop-at-preserved
loop-at-preserved c = appended c.loop-at.into c.push.new.self c.args.into.now c.args.other.now c.loop-at.at c.in-Some.line.now c.loop-at.invariant c.in-Ok.ensures.ok (sym c.in-Some.ensures)
