-- `state::centre_is_allowed` meets its contract. Assumes nothing.
use Rattle.state.specs.State.{centre_allowed}
use Rattle.state.proofs.centre_is_allowed.Goals as goal

pub returns : goal.returns
unfolding centre_allowed
returns c = rw c.coefficient_of.ensures
