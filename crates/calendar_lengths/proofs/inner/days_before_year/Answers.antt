-- `calendar_lengths::inner::days_before_year` meets its contract: the law of the days of up to a hundred years. Assumes nothing.
use mathlib.Core.Path.{sym}
use Prim.Native.Nat.{◌-◌}
use native.Mathlib.Omega.{arith}
use Rattle.calendar_lengths.proofs.Lengths.{days_of_years_lem}
use Rattle.calendar_lengths.proofs.inner.days_before_year.Goals as goal

pub returns : goal.returns
returns c = sym (days_of_years_lem (c.args.year - 1950) (omega arith))
