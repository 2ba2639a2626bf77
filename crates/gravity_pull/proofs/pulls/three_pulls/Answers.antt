-- `gravity_pull::pulls::three_pulls` meets its contract. Assumes nothing.
use Rattle.gravity_pull.specs.Pull.{g, sound, r3}
use Rattle.gravity_pull.specs.Sum.{pull_of}
use Rattle.gravity_pull.proofs.pulls.three_pulls.Goals as goal

pub returns : goal.returns
unfolding pull_of g sound r3
returns c = let roots = c.before in
    let squares = roots.before in
    rw (
      c.pull_by-third.ensures,
      c.pull_by-second.ensures,
      c.pull_by-first.ensures,
      roots.rooted-known.ensures,
      squares.square-3.ensures,
      squares.square-2.ensures,
      squares.square.ensures,
    )
