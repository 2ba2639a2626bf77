-- `step_sums::toward` meets its contract. Assumes nothing.
use mathlib.Core.Path.{refl}
use Rattle.step_sums.specs.Slopes.{along}
use Rattle.step_sums.proofs.toward.Goals as goal

pub returns : goal.returns
unfolding along
returns c = refl
