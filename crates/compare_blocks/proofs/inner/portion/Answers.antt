-- `compare_blocks::inner::portion` meets its contract: at the loop's test the bytes written and the report on the states to come make up the whole
-- (`Beside`). The measure is the number of states to come in both blocks. Assumes nothing.
use mathlib.Core.Path.{sym, ap, ◌∙◌}
use Rattle.compare_blocks.specs.Sides.{stops}
use Rattle.compare_blocks.proofs.Portions.{fills, turns}
use Rattle.compare_blocks.proofs.inner.portion.Goals as goal

pub loop-at-preserved : goal.loop-at-preserved
loop-at-preserved c = (
  c.put_turn-at.auto.out ∙ c.loop-at.invariant.0,
  rw
      (c.leave-second.ensures, c.leave-first.ensures, c.side_of-side.ensures) (turns _ _ _ _ _ _ _ _ _
      (fills _ _ _ _ _ _ _ _ _ c.loop-at.invariant.1 _ _
      c.filled-first.ensures c.filled-second.ensures) (sym (ap stops
      c.halt_of-halt.ensures)
      ∙ sym c.does_stop.ensures
      ∙ c.if-does_stop.false) _ _ c.put_turn-at.ensures.wrote),
)
