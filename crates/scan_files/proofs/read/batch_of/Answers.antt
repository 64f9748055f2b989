use Rattle.std.proofs.Common.{◌∙◌, ◌-◌, ap, ℕ, take, drop, ◌*◌, arith}
use Rattle.scan_files.proofs.Parts.{to_end, to_more}
use Rattle.scan_files.proofs.read.batch_of.Goals.{then-places-from-lt64, else-places-from-lt64}
use Rattle.scan_files.proofs.read.batch_of.Goals as goal

pub returns : goal.returns
returns c = elim c.if-places-from-lt64.branch [
  | then-places-from-lt64 w ↦ to_end c.args.places.now (64 * c.args.number) c.if-places-from-lt64.to w.to-is w.if-places-from-lt64.true
  | else-places-from-lt64 w ↦ to_more c.args.places.now (64 * c.args.number) c.if-places-from-lt64.to w.to-is
]
