use Rattle.json_rows.proofs.Stored.{row_writable}
use Rattle.json_rows.proofs.lines.of_members.Goals as goal

pub fitting-requires : goal.fitting-requires
fitting-requires c = record { writable = row_writable _ _ _ c.in_ok-pairs.ensures.value c.in_ok-pairs.ensures.stored c.requires.nests }
