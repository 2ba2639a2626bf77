-- The plain walk: steps f one after the other from a state, up to the first refusal.
use Rattle.std.specs.Prelude.{ℕ, zero, suc, Ok, Err}
use Rattle.state.specs.declared.State.{State}
use Rattle.step.specs.Step.{Moved}

abbrev pub onward : (State → Moved) → Moved → Moved
onward f (Ok s) = f s
onward f (Err k) = Err k

-- n steps from s: one step after the first n - 1
unfoldable pub walk : (State → Moved) → ℕ → State → Moved
walk f zero s = Ok s
walk f (suc n) s = onward f (walk f n s)
