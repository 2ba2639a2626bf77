-- `launch_turns::turned_over` meets its contract. Assumes nothing.
use mathlib.Core.Path.{refl}
use Rattle.launch_turns.specs.Turns.{transposed}
use Rattle.launch_turns.proofs.turned_over.Goals as goal

pub returns : goal.returns
unfolding transposed
returns c = refl
