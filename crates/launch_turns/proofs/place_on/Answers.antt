-- `launch_turns::place_on` meets its contract, operation by operation. Assumes nothing.
use mathlib.Core.Path.{refl}
use Rattle.launch_turns.specs.Turns.{place_on}
use Rattle.launch_turns.proofs.place_on.Goals as goal

pub returns : goal.returns
unfolding place_on
returns c = refl
