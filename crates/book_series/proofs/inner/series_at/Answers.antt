-- `book_series::inner::series_at` meets its contract. The invariant: the coefficients from k on are done, of each axis. Assumes nothing.
use mathlib.Core.Path.{◌∙◌}
use Rattle.book_series.proofs.Turns.{no_turn, one_turn, last_turn_lem}
use Rattle.book_series.proofs.inner.series_at.Goals as goal

pub loop-k-init : goal.loop-k-init
loop-k-init c = rw c.no_sums-s.ensures (no_turn _ _ _ c.requires.le_n.0)

pub loop-k-preserved : goal.loop-k-preserved
loop-k-preserved c = rw c.turn_of-s.ensures (one_turn _ _ _ _ _ c.loop-k.invariant c.loop-k-test.true)

pub returns : goal.returns
returns c = c.place_of.ensures ∙ last_turn_lem _ _ _ _ _ c.loop-k.invariant c.loop-k-test.false
