-- `launch_turns::tilt_table` meets its contract, operation by operation. Assumes nothing.
use mathlib.Core.Path.{refl}
use lib.Ieee.{of_bits, of_int}
use Rattle.launch_turns.specs.Turns.{tilt}
use Rattle.launch_turns.proofs.tilt_table.Goals as goal

pub returns : goal.returns
unfolding tilt of_bits of_int
returns c = refl
