use Rattle.pack_meaning.proofs.Files.{files_hold}
use Rattle.pack_meaning.proofs.files_hold_rows.Goals as goal

pub returns : goal.returns
returns c = files_hold
