-- `launch_turns::horizontal_velocity` meets its contract, operation by operation. Assumes nothing.
use mathlib.Core.Path.{refl}
use Rattle.launch_turns.specs.Turns.{horizontal}
use Rattle.launch_turns.proofs.horizontal_velocity.Goals as goal

pub returns : goal.returns
unfolding horizontal
returns c = refl
