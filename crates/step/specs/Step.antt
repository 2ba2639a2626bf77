-- Document 01, "The step and the run", and document 02, R-8: one step of the classical fourth-order Runge-Kutta rule. It starts from a
-- state with its stored acceleration, and the new state has its own.
use Rattle.base.specs.declared.Refusal.{Refusal}
use Rattle.std.specs.Prelude.{List, ℕ, ◌+◌, ◌/◌, Result, Ok, Err}
use Rattle.state.specs.State.{position, velocity, acceleration, starting_position}
use Rattle.state.specs.declared.Vector.{Vector}
use Rattle.state.specs.declared.State.{State}
use Rattle.state.specs.declared.Injection.{Injection}
use Rattle.state.specs.declared.Setting.{Setting}
use Rattle.gravity.specs.Acceleration.{acceleration_at}
use Rattle.gravity_stored.specs.Injection.{kept_by}
pub use Rattle.step_sums.specs.Slopes.{weigh}
unfoldable pub use Rattle.step_sums.specs.Slopes.{step_h, along, weighed, half, sixth}
pub use Rattle.step_end.specs.Arrival.{Moved, arrive}

-- an acceleration continues the step, a refusal ends it with its number
abbrev pub and_then : Result Vector Refusal → (Vector → Moved) → Moved
and_then (Ok a) next = next a
and_then (Err k) next = Err k

-- R-8: step "must keep it equal to the rule at that state"
abbrev pub keeping : (ℕ → Vector → Result Vector Refusal) → Injection → Moved
keeping acc i = kept_by i (acc i.moment (starting_position i))

-- "The four stages, in order, stand at t, t + h/2, t + h/2 and t + h". The slope of a stage is its velocity and its acceleration: k1 is v
-- and a1, k2 is v2 and a2, k3 is v3 and a3, k4 is v4 and a4. A stage is at "base + (H·0.5)·slope" of the one before it, the fourth at "base
-- + H·slope".
unfoldable pub step : List ℕ → Setting → ℕ → State → Moved
step b setting h s =
    let acc = acceleration_at b setting s.centre in
    let t = s.moment in
    let p = position s in
    let v = velocity s in
    -- k1: R-8, "a step uses it as its first slope"
    let a1 = acceleration s in
    -- k2
    let v2 = along v (half h) a1 in
    and_then (acc (t + h / 2) (along p (half h) v)) (λ a2.
    -- k3
    let v3 = along v (half h) a2 in
    and_then (acc (t + h / 2) (along p (half h) v2)) (λ a3.
    -- k4
    let v4 = along v (step_h h) a3 in
    and_then (acc (t + h) (along p (step_h h) v3)) (λ a4.
    -- the new state: "base + (H/6)·(((k1 + 2·k2) + 2·k3) + k4)"
    arrive (keeping acc) (t + h) s.centre (along p (sixth h) (weighed v v2 v3 v4)) (along v (sixth h) (weighed a1 a2 a3 a4)))))
