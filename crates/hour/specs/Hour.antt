-- Document 01, "Time" and "Hour angle", and document 02, R-9: UT, and the two rules as exact fractions. The answer has the refusals.
use Rattle.base.specs.declared.Refusal.{Refusal}
use Rattle.std.specs.Prelude.{Bool, not, ℕ, ◌-◌, ◌/◌, ◌%◌, Result, Ok, Err}
use Rattle.base.specs.Choice.{if◌then◌otherwise◌, ◌<?◌, ◌≤?◌, ◌=?◌}
use Rattle.base.specs.Limits.{is_moment, is_dut, day_length}
use Rattle.hour_rounding.specs.Fraction.{Fraction, into_circle}
use Rattle.hour_old.specs.DocumentOne.{document_one}
use Rattle.hour_1982.specs.Sidereal.{sidereal1982}

-- "UT is ephemeris time less DUT": its whole days, and the milliseconds of its day
abbrev pub ut_day : ℕ → ℕ → ℕ
ut_day moment dut = (moment - dut) / day_length

abbrev pub ut_time : ℕ → ℕ → ℕ
ut_time moment dut = (moment - dut) % day_length

-- "Keep both and choose by a setting": rule 0 is document 01's, rule 1 that of 1982
abbrev pub is_rule : ℕ → Bool
is_rule rule = rule ≤? 1

abbrev pub rule_of : ℕ → ℕ → ℕ → Fraction
rule_of rule d t = if rule =? 0 then document_one d t otherwise sidereal1982 d t

-- the hour angle by a rule, from d whole days and t milliseconds of UT
unfoldable pub sidereal_angle : ℕ → ℕ → ℕ → ℕ
sidereal_angle rule d t = into_circle (rule_of rule d t)

-- refusals "4 (DUT), 3", and "a rule other than the two is 4": a moment out of range, then "UT below 0"
abbrev pub sidereal_answer : ℕ → ℕ → ℕ → Result ℕ Refusal
sidereal_answer rule moment dut =
    if not (is_dut dut) then Err Refusal.Setting otherwise
    if not (is_rule rule) then Err Refusal.Setting otherwise
    if not (is_moment moment) then Err Refusal.Moment otherwise
    if moment <? dut then Err Refusal.Moment otherwise
    Ok (sidereal_angle rule (ut_day moment dut) (ut_time moment dut))

-- document 01's hour angle: "an old setting means the old rule"
abbrev pub hour_angle : ℕ → ℕ → ℕ
hour_angle d t = sidereal_angle 0 d t

abbrev pub hour_answer : ℕ → ℕ → Result ℕ Refusal
hour_answer moment dut = sidereal_answer 0 moment dut
