-- `launch_turns::swing_table` meets its contract, operation by operation. Assumes nothing.
use mathlib.Core.Path.{refl}
use lib.Ieee.{of_bits, of_int}
use Rattle.launch_turns.specs.Turns.{swing}
use Rattle.launch_turns.proofs.swing_table.Goals as goal

pub returns : goal.returns
unfolding swing of_bits of_int
returns c = refl
