-- `launch_turns::returned_state` meets its contract. Assumes nothing.
use Rattle.launch_turns.specs.Turns.{returned}
use Rattle.launch_turns.proofs.returned_state.Goals as goal

pub returns : goal.returns
unfolding returned
returns c = rw (c.table_times-velocity.ensures, c.carried_velocity.ensures, c.table_times-place.ensures, c.turned_over-back.ensures)
