use Rattle.time_meaning.proofs.DatesOfDays.{date_is}
use Rattle.time_meaning.proofs.dates_of_days.Goals as goal

pub returns : goal.returns
returns c = date_is
