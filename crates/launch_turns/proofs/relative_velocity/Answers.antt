-- `launch_turns::relative_velocity` meets its contract. Assumes nothing.
use Rattle.launch_turns.specs.Turns.{relative}
use Rattle.launch_turns.proofs.relative_velocity.Goals as goal

pub returns : goal.returns
unfolding relative
returns c = rw (c.table_times-2.ensures, c.table_times.ensures, c.tilt_table.ensures, c.swing_table.ensures)
