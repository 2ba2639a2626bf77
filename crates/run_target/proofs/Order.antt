-- The last two checks: steps of an allowed length have a length. Assumes nothing.
use mathlib.Core.Bool.{Bool, true, false, ◌&&◌}
use mathlib.Core.Path.{◌≡◌, refl}
use Prim.Native.Nat.{ℕ, ◌≤◌}
use native.Mathlib.Omega.{arith}
use borrow.Author.Tests.{le-leb}
use Rattle.base.specs.Choice.{◌≤?◌}
use Rattle.base.specs.Checks.{Checked, require, ◌before◌}
use Rattle.base.specs.declared.Refusal.{Refusal}
use Rattle.run_target.specs.Target.{step_allowed, within_steps}
use Rattle.run_target.proofs.Allowed.{long_enough}

abbrev two_checks : Bool → Bool → Checked
two_checks length reaches = require length Refusal.Step before require reaches Refusal.Target

pub last_two : (t h target : ℕ) → two_checks (step_allowed h) ((1 ≤? h) && within_steps t h target) ≡ two_checks (step_allowed h) (within_steps t h target)
last_two t h target = go (step_allowed h) refl
  where
    go : (ok : Bool) → step_allowed h ≡ ok → two_checks ok ((1 ≤? h) && within_steps t h target) ≡ two_checks ok (within_steps t h target)
    go true e = let long : 2 ≤ h = long_enough h e in rw (le-leb 1 h (omega arith))
    go false e = refl
