-- The distance of an angle from the nearer axis is at most an octant. Assumes nothing.
use mathlib.Core.Bool.{Bool, true, false}
use Prim.Native.Nat.{ℕ, ◌≤◌, ◌<◌, ◌%◌, ◌-◌}
use native.Mathlib.Omega.{arith}
use Rattle.base.specs.Choice.{if◌then◌otherwise◌, ◌=?◌}
use Rattle.sine.specs.Sine.{octant, within}

pub within_le : (q r : ℕ) → r < octant → within q r ≤ octant
unfolding within
within_le q r h = go (q % 2 =? 0)
  where
    go : (b : Bool) → (if b then r otherwise octant - r) ≤ octant
    go true = omega arith
    go false = omega arith
