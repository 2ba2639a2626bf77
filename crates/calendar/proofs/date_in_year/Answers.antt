-- `calendar::date_in_year` meets its contract. The invariant: the elapsed days reach to the month, or past it by the rest. Assumes nothing.
use native.Mathlib.Omega.{arith}
use mathlib.Core.Path.{◌≡◌}
use Rattle.calendar.proofs.MonthSearch.{start, onward, in_december, reached}
use Rattle.calendar.proofs.date_in_year.Goals as goal

pub loop-month-init : goal.loop-month-init
loop-month-init c = start _ _ (rw c.is_leap-leap.ensures c.requires.1.1)

pub returns-then-rest-length : goal.returns-then-rest-length
returns-then-rest-length c = reached _ _ _ _ c.loop-month.invariant c.args.year c.requires.0 c.is_leap-leap.ensures (rw (← c.month_length-length.ensures) c.if-rest-length.true)

pub loop-month-preserved : goal.loop-month-preserved
loop-month-preserved c = rw c.month_length-length.ensures (onward _ _ _ _ c.loop-month.invariant c.loop-month-test.true (rw (← c.month_length-length.ensures) c.if-rest-length.false))

pub returns : goal.returns
returns c = let e : c.loop-month.month ≡ 12 = omega arith in
    rw (← e) (reached _ _ _ _ c.loop-month.invariant c.args.year c.requires.0 c.is_leap-leap.ensures (in_december _ _ _ _ c.loop-month.invariant e))
