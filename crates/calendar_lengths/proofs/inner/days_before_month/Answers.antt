-- `calendar_lengths::inner::days_before_month` meets its contract. The invariant: days are those of the months before m. Assumes nothing.
use Prim.Native.Nat.{◌-◌}
use native.Mathlib.Omega.{arith}
use Rattle.calendar_lengths.proofs.Lengths.{january_starts, next_month, month_ends}
use Rattle.calendar_lengths.proofs.inner.days_before_month.Goals as goal

pub loop-m-init : goal.loop-m-init
loop-m-init c = omega (arith, january_starts c.args.leap)

pub overflow_add-days : goal.overflow_add-days
overflow_add-days c = omega (arith, month_ends c.args.leap c.loop-m.m (omega arith) (omega arith))

pub loop-m-preserved : goal.loop-m-preserved
loop-m-preserved c = omega (arith, next_month c.args.leap c.loop-m.m (omega arith))
