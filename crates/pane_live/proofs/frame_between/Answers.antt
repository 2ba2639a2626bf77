-- `pane_live::frame_between` meets its contract. Assumes nothing.
use Rattle.std.proofs.Common.{rules, le-ltb, lt-ltb}
use Rattle.pane_live.proofs.frame_between.Goals as goal

pub overflow_sub-result : goal.overflow_sub-result
overflow_sub-result c = search rules

pub returns-then-b-t : goal.returns-then-b-t
returns-then-b-t c = rw (lt-ltb _ _ c.if-b-t.true)

pub returns-then-t-a : goal.returns-then-t-a
returns-then-t-a c = rw (le-ltb _ _ c.if-b-t.false, lt-ltb _ _ c.if-t-a.true)

pub figure_of-requires : goal.figure_of-requires
figure_of-requires c = search rules

pub show-requires : goal.show-requires
show-requires c = search rules

pub returns : goal.returns
returns c = rw (le-ltb _ _ c.if-b-t.false, le-ltb _ _ c.if-t-a.false, c.show.ensures, c.figure_of.ensures)
