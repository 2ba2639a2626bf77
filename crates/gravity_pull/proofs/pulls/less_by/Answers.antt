-- `gravity_pull::pulls::less_by` meets its contract. Assumes nothing.
use Rattle.gravity_pull.specs.Pull.{g, sound, r3}
use Rattle.gravity_pull.specs.Sum.{pull_of, less_by}
use Rattle.gravity_pull.proofs.pulls.less_by.Goals as goal

pub returns-then-b : goal.returns-then-b
unfolding less_by pull_of g sound r3
returns-then-b c = let if = c.before in
    rw (c.take_off.ensures, c.pull_by.ensures, c.square.ensures)
    (rw (c.difference-v.ensures, if.requires if.if-b.true, if.if-b.true))

pub returns : goal.returns
unfolding less_by
returns c = rw c.if-b.false
