use Rattle.file_meaning.proofs.Believed.{file_is}
use Rattle.file_meaning.proofs.Spelled.{file_reads}
use Rattle.file_meaning.proofs.reading_is_exact.Goals as goal

pub returns : goal.returns
returns c = λ bytes f es all. (file_is bytes f es all, file_reads bytes f es)
