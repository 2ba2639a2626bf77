-- `calendar::date_in_year` meets its contract. The invariant: the elapsed days reach to the month, or past it by the rest. Assumes nothing.
use Rattle.calendar.proofs.MonthSearch.{Reached}
use Rattle.calendar.proofs.date_in_year.Given as goal

abbrev pub invariant-loop-month : goal.invariant-loop-month
invariant-loop-month l = Reached l.leap l.elapsed l.month l.rest
