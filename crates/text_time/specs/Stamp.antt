-- Document 02, R-13: "moment as 1950-01-01T00:00:00.000".
use Rattle.std.specs.Prelude.{ℕ, ◌/◌, ◌%◌, List, [], ◌∷◌, ◌++◌}
use Rattle.base.specs.Limits.{day_length}
use Rattle.text_write.specs.Numerals.{digits}
use Rattle.calendar.specs.declared.Calendar.{Calendar}
use Rattle.calendar.specs.Gregorian.{date_of}

-- - T : .
abbrev pub dash : List ℕ
dash = 45 ∷ []

abbrev pub tee : List ℕ
tee = 84 ∷ []

abbrev pub colon : List ℕ
colon = 58 ∷ []

abbrev pub point : List ℕ
point = 46 ∷ []

-- 1950-01-01
unfoldable pub date_text : Calendar → List ℕ
date_text date = digits 10 4 date.year ++ dash ++ digits 10 2 date.month ++ dash ++ digits 10 2 date.day

-- 00:00:00.000, from the milliseconds of a day
unfoldable pub time_text : ℕ → List ℕ
time_text t = digits 10 2 (t / 3_600_000) ++ colon ++ digits 10 2 (t / 60_000 % 60) ++ colon ++ digits 10 2 (t / 1_000 % 60) ++ point ++ digits 10 3 (t % 1_000)

-- the day of the moment and its time of day
unfoldable pub stamp_text : ℕ → List ℕ
stamp_text moment = date_text (date_of (moment / day_length)) ++ tee ++ time_text (moment % day_length)
