-- `pane_motion::motion_within` meets its contract. Assumes nothing.
use borrow.Author.Tests.{eq-eqb, ne_eqb}
use Rattle.pane_live.specs.Pane.{figure}
use Rattle.pane_motion.specs.Motion.{frame_velocity}
use Rattle.pane_motion.proofs.motion_within.Goals as goal

pub returns-then-t-a : goal.returns-then-t-a
unfolding figure frame_velocity
returns-then-t-a c = rw (eq-eqb _ _ c.if-t-a.true) c.motion_of.ensures

pub returns-then-t-b : goal.returns-then-t-b
unfolding figure frame_velocity
returns-then-t-b c = rw (ne_eqb _ _ c.if-t-a.false, eq-eqb _ _ c.if-t-b.true) c.motion_of-then-t-b.ensures

pub returns : goal.returns
unfolding figure frame_velocity
returns c = rw (ne_eqb _ _ c.if-t-a.false, ne_eqb _ _ c.if-t-b.false) c.motion_along.ensures
