-- `text_time::inner::put_stamp` meets its contract. Assumes nothing.
use mathlib.Core.Path.{sym, ◌∙◌}
use native.Mathlib.Omega.{arith}
use lib.ListN.{length-set}
use Rattle.text_write.proofs.Writing.{both, byte}
use Rattle.text_time.specs.Stamp.{stamp_text}
use Rattle.text_time.proofs.Parts.{date_next, has_date}
use Rattle.text_time.proofs.inner.put_stamp.Goals as goal

pub put_time-requires : goal.put_time-requires
put_time-requires c = rw length-set (omega (arith, date_next _ c.put_date-time.ensures, c.put_date-time.auto.out))

pub returns-in-Ok : goal.returns-in-Ok
unfolding stamp_text
returns-in-Ok c = rw (has_date c.args.moment _ c.requires.moment_lt_end_of_time (sym c.in-Ok.is ∙ c.from_day-answer.ensures))
    (both (both c.put_date-time.ensures (byte _ _ _ (omega (arith, date_next _ c.put_date-time.ensures, c.put_date-time.auto.out)))) c.put_time.ensures)

pub bounds-out-time : goal.bounds-out-time
bounds-out-time c = omega (arith, date_next _ c.put_date-time.ensures, c.put_date-time.auto.out)
