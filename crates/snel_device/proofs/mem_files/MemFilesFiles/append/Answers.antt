use Rattle.std.proofs.Common.{refl, ap, ◌∙◌}
use Rattle.snel_device.specs.MemFiles.{stored}
use Rattle.snel_device.proofs.Told.{nothing_kept}
use Rattle.snel_device.proofs.mem_files.MemFilesFiles.append.Goals as goal

pub extend_file-requires : goal.extend_file-requires
extend_file-requires c = c.requires _ refl

pub returns-then-count_call-clause-cut : goal.returns-then-count_call-clause-cut
returns-then-count_call-clause-cut c = nothing_kept (stored c.args.self.now) (stored c.fail_write.new.self) _ _ (ap stored c.fail_write.ensures.counted)

pub returns-in-Err-clause-cut : goal.returns-in-Err-clause-cut
returns-in-Err-clause-cut c = nothing_kept (stored c.args.self.now) (stored c.fail_write-in-Err.new.self) _ _ (ap stored c.fail_write-in-Err.ensures.counted ∙ c.in-Err.ensures.unchanged)
