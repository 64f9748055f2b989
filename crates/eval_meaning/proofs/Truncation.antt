-- DATE_TRUNC gives the greatest start that isn't after the time.
use Rattle.std.proofs.Common.{ℤ, arith}
use Rattle.jiff_core.proofs.SignedLemmas.{signed_arith}
use Rattle.time_meaning.specs.Moments.{IsTime}
use Rattle.tree_meaning.specs.declared.Part.{Part}
use Rattle.tree_meaning.specs.declared.Part.TheVariants as part
use Rattle.eval_meaning.specs.Times.{trunc}
use Rattle.eval_meaning.specs.Starts.{IsStart, IsGreatestStart}
use Rattle.eval_meaning.proofs.Multiples.{second_is, minute_is, hour_is, day_is, week_is}
use Rattle.eval_meaning.proofs.FirstDays.{month_is, quarter_is, year_is}

pub trunc_is : (p : Part) (t : ℤ) → IsTime t → IsGreatestStart (IsStart p) t (trunc p t)
unfolding trunc
trunc_is part.Microsecond t h = record { starts = tt; before = omega (arith, signed_arith); greatest = λ w s le. le }
trunc_is part.Second t h = second_is t
trunc_is part.Minute t h = minute_is t
trunc_is part.Hour t h = hour_is t
trunc_is part.Day t h = day_is t
trunc_is part.Week t h = week_is t
trunc_is part.Month t h = month_is t h
trunc_is part.Quarter t h = quarter_is t h
trunc_is part.Year t h = year_is t h
