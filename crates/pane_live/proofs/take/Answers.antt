-- `pane_live::take` meets its contract. Assumes nothing.
use Rattle.pane_live.specs.Pane.{take}
use Rattle.pane_live.proofs.take.Goals as goal

pub returns-in-Blank : goal.returns-in-Blank
unfolding take
returns-in-Blank c = rw c.in-Blank.is

pub returns-in-One : goal.returns-in-One
unfolding take
returns-in-One c = rw c.in-One.is c.taken_after.ensures

pub returns-in-Two : goal.returns-in-Two
unfolding take
returns-in-Two c = rw c.in-Two.is c.taken_after-in-Two.ensures
