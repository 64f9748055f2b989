use Rattle.std.proofs.Common.{slice_index_or}
use Rattle.range_meaning.proofs.Passing.{passes_not}
use Rattle.range_meaning.proofs.no_excluded_row_passes.Goals as goal

pub returns : goal.returns
returns c = λ field filter entry rows times sound excluded k d within.
    passes_not field filter (slice_index_or rows k d) entry (λ named. sound named k d within) times excluded
