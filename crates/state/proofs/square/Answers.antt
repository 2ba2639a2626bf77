-- `state::square` meets its contract, operation by operation. Assumes nothing.
use mathlib.Core.Path.{refl}
use Rattle.state.specs.State.{n}
use Rattle.state.proofs.square.Goals as goal

pub returns : goal.returns
unfolding n
returns c = refl
