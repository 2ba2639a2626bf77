-- `gravity_pull::pulls::three_pulls_by` meets its contract. Assumes nothing.
use Rattle.gravity_pull.specs.Pull.{g, sound, r3}
use Rattle.gravity_pull.specs.Sum.{pull_of}
use Rattle.gravity_pull.proofs.pulls.three_pulls_by.Goals as goal

pub returns : goal.returns
unfolding pull_of g sound r3
returns c = let squares = c.before in
    rw (
      c.pull_by-third.ensures,
      c.pull_by-second.ensures,
      c.pull_by-first.ensures,
      squares.square-n_w.ensures,
      squares.square-n_v.ensures,
      squares.square-n_u.ensures,
      squares.requires,
    )
