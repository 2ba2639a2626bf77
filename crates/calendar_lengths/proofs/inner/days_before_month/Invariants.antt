-- `calendar_lengths::inner::days_before_month` meets its contract. The invariant: days are those of the months before m. Assumes nothing.
use mathlib.Core.Path.{◌≡◌}
use Prim.Native.Nat.{◌-◌, ◌≤◌}
use Rattle.calendar_lengths.specs.Lengths.{days_before_month}
use Rattle.calendar_lengths.proofs.inner.days_before_month.Given as goal

abbrev pub invariant-loop-m : goal.invariant-loop-m
invariant-loop-m l = (1 ≤ l.m) × (l.m ≤ l.month) × (l.days ≡ days_before_month l.leap l.m)

abbrev pub decreases-loop-m : goal.decreases-loop-m
decreases-loop-m l = l.month - l.m
