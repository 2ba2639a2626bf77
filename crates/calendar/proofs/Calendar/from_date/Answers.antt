-- `calendar::Calendar::from_date` meets its contract: a date that passed has its day in range. Assumes nothing.
use mathlib.Core.Bool.{Bool, true}
use mathlib.Core.Path.{◌≡◌, ap, sym, ◌∙◌}
use Prim.Native.Nat.{◌+◌, ◌-◌, ◌≤◌}
use native.Mathlib.Omega.{arith}
use Rattle.base.specs.Limits.{last_day}
use Rattle.calendar.specs.Gregorian.{ymd, days_before_month, is_date, day_of}
use Rattle.calendar.proofs.Dates.{date_in_range}
use Rattle.calendar.proofs.Calendar.from_date.Goals as goal

pub overflow_add-before : goal.overflow_add-before
overflow_add-before c = omega (arith, (let counted : 0 + (c.days_before_year.result + c.days_before_month.result) + (c.args.day - 1) ≡ day_of ((ymd c.args.year c.args.month c.args.day)) = omega (arith, c.days_before_month.ensures ∙ ap (λ (leap : Bool). days_before_month leap c.args.month) c.is_leap.ensures) in counted), (let in_range : day_of ((ymd c.args.year c.args.month c.args.day)) ≤ last_day = date_in_range ((ymd c.args.year c.args.month c.args.day)) ((let tested : is_date ((ymd c.args.year c.args.month c.args.day)) ≡ true = sym c.is_date.ensures ∙ c.if-is_date.true in tested)) in in_range))

pub overflow_add-result : goal.overflow_add-result
overflow_add-result c = omega (arith, (let counted : 0 + (c.days_before_year.result + c.days_before_month.result) + (c.args.day - 1) ≡ day_of ((ymd c.args.year c.args.month c.args.day)) = omega (arith, c.days_before_month.ensures ∙ ap (λ (leap : Bool). days_before_month leap c.args.month) c.is_leap.ensures) in counted), (let in_range : day_of ((ymd c.args.year c.args.month c.args.day)) ≤ last_day = date_in_range ((ymd c.args.year c.args.month c.args.day)) ((let tested : is_date ((ymd c.args.year c.args.month c.args.day)) ≡ true = sym c.is_date.ensures ∙ c.if-is_date.true in tested)) in in_range))

pub overflow_add-result-then-is_date : goal.overflow_add-result-then-is_date
overflow_add-result-then-is_date c = omega (arith, (let counted : 0 + (c.days_before_year.result + c.days_before_month.result) + (c.args.day - 1) ≡ day_of ((ymd c.args.year c.args.month c.args.day)) = omega (arith, c.days_before_month.ensures ∙ ap (λ (leap : Bool). days_before_month leap c.args.month) c.is_leap.ensures) in counted), (let in_range : day_of ((ymd c.args.year c.args.month c.args.day)) ≤ last_day = date_in_range ((ymd c.args.year c.args.month c.args.day)) ((let tested : is_date ((ymd c.args.year c.args.month c.args.day)) ≡ true = sym c.is_date.ensures ∙ c.if-is_date.true in tested)) in in_range))
