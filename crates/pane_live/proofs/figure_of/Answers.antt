-- `pane_live::figure_of` meets its contract. Assumes nothing.
use Rattle.std.proofs.Common.{eq-eqb, ne_eqb}
use Rattle.pane_live.specs.Pane.{figure}
use Rattle.pane_live.proofs.figure_of.Goals as goal

pub returns-then-t-a : goal.returns-then-t-a
unfolding figure
returns-then-t-a c = rw (eq-eqb _ _ c.if-t-a.true) c.position_of.ensures

pub returns-then-t-b : goal.returns-then-t-b
unfolding figure
returns-then-t-b c = rw (ne_eqb _ _ c.if-t-a.false, eq-eqb _ _ c.if-t-b.true) c.position_of-then-t-b.ensures

pub returns : goal.returns
unfolding figure
returns c = rw (ne_eqb _ _ c.if-t-a.false, ne_eqb _ _ c.if-t-b.false) c.place_between.ensures
