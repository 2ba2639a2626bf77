-- What follows if the checks of step length and target pass. Assumes nothing.
use mathlib.Core.Bool.{true, ◌&&◌}
use mathlib.Core.Path.{◌≡◌}
use Prim.Native.Nat.{ℕ, ◌+◌, ◌-◌, ◌*◌, ◌/◌, ◌%◌, ◌≤◌}
use native.Mathlib.Nat.{div-add-mod'}
use native.Mathlib.Omega.{arith}
use borrow.Author.Tests.{leb-true, eqb-true}
use Rattle.base.specs.Choice.{◌≤?◌, ◌=?◌}
use Rattle.base.proofs.Bools.{left, right}
use Rattle.run_target.specs.Target.{step_allowed, within_steps}

pub long_enough : (h : ℕ) → step_allowed h ≡ true → 2 ≤ h
long_enough h e = leb-true 2 h (left (2 ≤? h) (h ≤? 86_400_000) (left ((2 ≤? h) && (h ≤? 86_400_000)) (h % 2 =? 0) e))

-- the target is a whole number of steps away
pub away : (t h target : ℕ) → within_steps t h target ≡ true → t + (target - t) / h * h ≡ target
away t h target w =
    let before : t ≤ target = leb-true t target (left (t ≤? target) ((target - t) % h =? 0) w) in
    let even : (target - t) % h ≡ 0 = eqb-true _ _ (right (t ≤? target) ((target - t) % h =? 0) w) in
    let whole = div-add-mod' (target - t) h in
    omega arith
