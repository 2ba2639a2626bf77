-- `gravity_pull::pulls::pull_known` meets its contract. Assumes nothing.
use Rattle.gravity_pull.specs.Pull.{g, sound, r3}
use Rattle.gravity_pull.specs.Sum.{pull_of}
use Rattle.gravity_pull.proofs.pulls.pull_known.Goals as goal

pub returns : goal.returns
unfolding pull_of g sound r3
returns c = rw (c.pull_by.ensures, c.root_among.ensures, c.square-n.ensures)
