-- `pane_live::frame` meets its contract. Assumes nothing.
use Rattle.pane_live.specs.Pane.{frame_at}
use Rattle.pane_live.proofs.frame.Goals as goal

pub returns-in-Blank : goal.returns-in-Blank
unfolding frame_at
returns-in-Blank c = rw c.in-Blank.is

pub returns-in-One : goal.returns-in-One
unfolding frame_at
returns-in-One c = rw c.in-One.is

pub returns-in-Two : goal.returns-in-Two
unfolding frame_at
returns-in-Two c = rw c.in-Two.is c.frame_between.ensures
