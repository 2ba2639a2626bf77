-- `pane_motion::frame_motion` meets its contract. Assumes nothing.
use Rattle.pane_motion.specs.Motion.{motion_at}
use Rattle.pane_motion.proofs.frame_motion.Goals as goal

pub returns-in-Blank : goal.returns-in-Blank
unfolding motion_at
returns-in-Blank c = rw c.in-Blank.is

pub returns-in-One : goal.returns-in-One
unfolding motion_at
returns-in-One c = rw c.in-One.is
