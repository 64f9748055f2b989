use Rattle.time_index.proofs.Told.{not_absent, there}
use Rattle.time_index.proofs.files.read_index.Goals as goal

pub returns-in-Err-Failed-clause-absent : goal.returns-in-Err-Failed-clause-absent
returns-in-Err-Failed-clause-absent g c =
    not_absent _ _ _ (λ e. cc) (c.size.ensures.failed (cc (c.in-Err-Failed.is, c.in-Err-Failed.field-0-is)))

pub returns-clause-absent : goal.returns-clause-absent
returns-clause-absent g c = not_absent _ _ _ c.read_sized.ensures.not_absent (there _ _ _ c.in-Ok.ensures.length)
