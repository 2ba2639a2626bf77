-- `book_series::inner::slopes_at` meets its contract. The invariant: the coefficients from k on are done, of each axis. Assumes nothing.
use Rattle.book_series.proofs.Slopes.{no_slope, one_slope, last_slope_lem}
use Rattle.book_series.proofs.inner.slopes_at.Goals as goal

pub loop-k-init : goal.loop-k-init
loop-k-init c = rw (c.no_turn-z.ensures, c.no_turn-y.ensures, c.no_turn-x.ensures) (no_slope _ _ _ c.requires.le_n.0)

pub loop-k-preserved : goal.loop-k-preserved
loop-k-preserved c = rw (
  c.one_turn-z.ensures,
  c.one_turn-y.ensures,
  c.one_turn-x.ensures,
  c.at-in-loop-k-2.ensures,
  c.at-in-loop-k.ensures,
  c.at.ensures,
) (one_slope _ _ _ _ _ _ _ c.loop-k.invariant c.loop-k-test.true)

pub returns : goal.returns
returns c = rw (c.speed_of-3.ensures, c.speed_of-2.ensures, c.speed_of.ensures)
    (last_slope_lem _ _ _ _ _ _ _ c.loop-k.invariant _ c.loop-k-test.false)
