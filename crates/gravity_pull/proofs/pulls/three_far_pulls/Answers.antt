-- `gravity_pull::pulls::three_far_pulls` meets its contract. Assumes nothing.
use Rattle.gravity_pull.specs.Pull.{g, sound, r3}
use Rattle.gravity_pull.specs.Sum.{pull_of}
use Rattle.gravity_pull.proofs.pulls.three_far_pulls.Goals as goal

pub returns : goal.returns
unfolding pull_of g sound r3
returns c = let pulls = c.before in
    let roots = pulls.before in
    let near = roots.before in
    let far = near.before in
    rw (c.pull_by-third.ensures, c.pull_by-second.ensures, pulls.pull_by-first.ensures, roots.square_roots-six.ensures)
    (rw (near.square-3.ensures, near.difference-3.ensures, near.square-2.ensures)
    (rw (near.difference-2.ensures, near.square.ensures)
    (rw (near.difference.ensures, far.square-n_w.ensures)
    (rw (far.square-n_v.ensures, far.square-n_u.ensures)))))
