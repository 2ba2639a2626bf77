-- `pane_lines::inner::put_line` meets its contract. Assumes nothing.
use native.Mathlib.Omega.{arith}
use Rattle.pane_lines.proofs.Ended.{ended}
use Rattle.pane_lines.proofs.inner.put_line.Goals as goal

pub returns : goal.returns
returns g c = let e = c.put_items-end.ensures in rw c.end_line.ensures (ended g.R.Reason.told c.args.answer (let r = e.room in omega (arith, r.fits, c.requires)) e)
