-- `gravity_pull::pulls::near_sum` meets its contract. Assumes nothing.
use Rattle.gravity_pull.specs.Sum.{less_by}
use Rattle.gravity_pull.proofs.pulls.near_sum.Goals as goal

pub returns : goal.returns
unfolding less_by
returns c = let pulls = c.before in
    rw (
      c.less_near-sum.ensures,
      c.less_near.ensures,
      c.turned_round.ensures,
      pulls.three_pulls-near.ensures,
      pulls.difference-from_second.ensures,
      pulls.difference-from_first.ensures,
    )
