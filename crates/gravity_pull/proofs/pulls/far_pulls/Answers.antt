-- `gravity_pull::pulls::far_pulls` meets its contract. Assumes nothing.
use Rattle.gravity_pull.specs.Pull.{g, sound, r3}
use Rattle.gravity_pull.specs.Sum.{pull_of}
use Rattle.gravity_pull.proofs.pulls.far_pulls.Goals as goal

pub returns : goal.returns
unfolding pull_of g sound r3
returns c = let roots = c.before in
    let near = roots.before in
    rw (
      c.pull_by-second.ensures,
      c.pull_by-first.ensures,
      roots.square_roots-five.ensures,
      near.square-3.ensures,
      near.difference-2.ensures,
      near.square-2.ensures,
      near.difference.ensures,
      near.square.ensures,
      near.square-n_v.ensures,
      near.square-n_u.ensures,
    )
