-- `line_texts::inner::put_line` meets its contract. Assumes nothing.
use native.Mathlib.Omega.{arith}
use Rattle.line_texts.specs.Text.{answer_items}
use Rattle.line_texts.proofs.Written.{ended}
use Rattle.line_texts.proofs.inner.put_line.Goals as goal

pub returns : goal.returns
returns g c = rw c.end_line.ensures
    (ended (answer_items g.R.Reason.told c.args.answer) (let r = c.put_items-end.ensures.room in omega (arith, r.fits, c.requires)) c.put_items-end.ensures)
