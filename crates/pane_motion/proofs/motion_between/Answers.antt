-- `pane_motion::motion_between` meets its contract. Assumes nothing.
use borrow.Author.Tests.{lt-ltb, le-ltb}
use Rattle.pane_live.specs.Pane.{frame_at}
use Rattle.pane_motion.specs.Motion.{motion_at}
use Rattle.pane_motion.proofs.motion_between.Goals as goal

pub returns-then-b-t : goal.returns-then-b-t
unfolding frame_at motion_at
returns-then-b-t c = rw (lt-ltb _ _ c.if-b-t.true)

pub returns-then-t-a : goal.returns-then-t-a
unfolding frame_at motion_at
returns-then-t-a c = rw (le-ltb _ _ c.if-b-t.false, lt-ltb _ _ c.if-t-a.true)

pub returns : goal.returns
unfolding frame_at motion_at
returns c = rw (
  le-ltb _ _ c.if-b-t.false,
  le-ltb _ _ c.if-t-a.false,
  c.show.ensures,
  c.motion_within.ensures,
)
