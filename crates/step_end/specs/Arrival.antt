-- Document 01, "The step and the run", and document 02, R-8: the end of a step, from the slopes of its four stages.
use Rattle.base.specs.declared.Refusal.{Refusal}
use Rattle.base.specs.Refusals.{itself}
use Rattle.std.specs.Prelude.{◌&&◌, ℕ, ◌+◌, Result, Ok, Err}
use Rattle.base.specs.Choice.{if◌then◌otherwise◌}
use Rattle.state.specs.State.{position, velocity, injection_at, finite_vector}
use Rattle.state.specs.declared.Vector.{Vector}
use Rattle.state.specs.declared.State.{State}
use Rattle.state.specs.declared.Injection.{Injection}
use Rattle.step_sums.specs.Slopes.{step_h, along, weighed, half, sixth}

-- the result of a step: the new state, or its refusal
abbrev pub Moved : Type 0
Moved = Result State Refusal

-- "A new component that is not finite gives 7"; `ends` computes the result from the new position and velocity, and `held` is what the 7
-- is held as
abbrev pub arrive_for : {R : Type 0} → (Refusal → R) → (Injection → Result State R) → ℕ → ℕ → Vector → Vector → Result State R
arrive_for held ends t centre p v = if finite_vector p && finite_vector v then ends (injection_at t centre p v) otherwise Err (held Refusal.NotFinite)

abbrev pub arrive : (Injection → Moved) → ℕ → ℕ → Vector → Vector → Moved
arrive = arrive_for itself

-- The velocity of a stage, from the acceleration of the stage before it. The slope of a position is the stage's velocity, that of a
-- velocity the stage's acceleration.
abbrev pub velocity2 : ℕ → State → Vector → Vector
velocity2 h s a1 = along (velocity s) (half h) a1

abbrev pub velocity3 : ℕ → State → Vector → Vector
velocity3 h s a2 = along (velocity s) (half h) a2

abbrev pub velocity4 : ℕ → State → Vector → Vector
velocity4 h s a3 = along (velocity s) (step_h h) a3

-- "The new moment is t + h"; the centre stays
abbrev pub lastly_for : {R : Type 0} → (Refusal → R) → (Injection → Result State R) → ℕ → State → Vector → Vector → Vector → Vector → Result State R
lastly_for held ends h s a1 a2 a3 a4 =
    arrive_for held ends (s.moment + h) s.centre
    (along (position s) (sixth h) (weighed (velocity s) (velocity2 h s a1) (velocity3 h s a2) (velocity4 h s a3)))
    (along (velocity s) (sixth h) (weighed a1 a2 a3 a4))

abbrev pub lastly : (Injection → Moved) → ℕ → State → Vector → Vector → Vector → Vector → Moved
lastly = lastly_for itself
