-- `step_sums::weigh_all` meets its contract. Assumes nothing.
use Rattle.step_sums.specs.Slopes.{weighed}
use Rattle.step_sums.proofs.weigh_all.Goals as goal

pub returns : goal.returns
unfolding weighed
returns c = rw (c.weigh_one-3.ensures, c.weigh_one-2.ensures, c.weigh_one.ensures)
