-- `launch_turns::carried_velocity` meets its contract, operation by operation. Assumes nothing.
use mathlib.Core.Path.{refl}
use Rattle.launch_turns.specs.Turns.{carried}
use Rattle.launch_turns.proofs.carried_velocity.Goals as goal

pub returns : goal.returns
unfolding carried
returns c = refl
