-- The parts of a stamp. Assumes nothing.
use Prim.Native.Nat.{ℕ, ◌+◌, ◌/◌, ◌%◌, ◌<◌}
use mathlib.Core.List.{List, [], ◌∷◌, ◌++◌, append_assoc}
use mathlib.Core.Path.{◌≡◌, sym, subst, ◌∙◌}
use native.Mathlib.Omega.{arith}
use lib.ListN.{length, length-append}
use Rattle.std.specs.Prelude.{Result, Ok, Err}
use Rattle.base.specs.declared.Refusal.{Refusal}
use Rattle.text_write.specs.Numerals.{digits}
use Rattle.text_write.specs.Written.{Wrote}
use Rattle.text_write.proofs.Writing.{both}
use Rattle.text_write.proofs.Digits.{length_digits}
use Rattle.calendar.specs.declared.Calendar.{Calendar}
use Rattle.calendar.specs.Gregorian.{date_of}
use Rattle.base.specs.Limits.{day_length, end_of_time, last_day}
use borrow.Author.Tests.{le-leb}
use Rattle.calendar.specs.Answers.{date_answer}
use Rattle.text_time.specs.Stamp.{date_text, time_text, stamp_text}

-- a text, and after it a sign and digits
pub behind : (s n : ℕ) {a b c t : List ℕ} {at m r : ℕ} → Wrote a at t b m → Wrote b m ((s ∷ []) ++ digits 10 2 n) c r → Wrote a at (t ++ (s ∷ []) ++ digits 10 2 n) c r
behind s n {a} {b} {c} {t} {at} {m} {r} v w = subst (λ (u : List ℕ). Wrote a at u c r) (sym (append_assoc t (s ∷ []) (digits 10 2 n))) (both v w)

pub behind_length : (s n : ℕ) → length ((s ∷ []) ++ digits 10 2 n) ≡ 3
behind_length s n = rw (length-append, length_digits 10 2 n) (omega arith)

pub two_next : (n : ℕ) {a b : List ℕ} {at r : ℕ} → Wrote a at (digits 10 2 n) b r → r ≡ at + 2
two_next n w = omega (arith, w.next, length_digits 10 2 n)

pub behind_next : (s n : ℕ) {a b : List ℕ} {at r : ℕ} → Wrote a at ((s ∷ []) ++ digits 10 2 n) b r → r ≡ at + 3
behind_next s n w = omega (arith, w.next, behind_length s n)

pub date_length : (date : Calendar) → length (date_text date) ≡ 10
unfolding date_text
date_length date = rw (length-append, length-append, length-append, length-append, length_digits 10 4 date.year, length_digits 10 2 date.month, length_digits 10 2 date.day) (omega arith)

pub date_next : (date : Calendar) {a b : List ℕ} {at r : ℕ} → Wrote a at (date_text date) b r → r ≡ at + 10
date_next date w = omega (arith, w.next, date_length date)

pub time_length : (t : ℕ) → length (time_text t) ≡ 12
unfolding time_text
time_length t =
    rw (length-append, length-append, length-append, length-append, length-append, length-append, length_digits 10 2 (t / 3_600_000))
    (rw (length_digits 10 2 (t / 60_000 % 60), length_digits 10 2 (t / 1_000 % 60), length_digits 10 3 (t % 1_000))
    (omega arith))

-- a moment in range has a date
in_range : (moment : ℕ) → moment < end_of_time → date_answer (moment / day_length) ≡ Ok (date_of (moment / day_length))
in_range moment h = rw (le-leb (moment / day_length) last_day (omega arith))

same_date : (d e : Calendar) → ◌≡◌ {A = Result Calendar Refusal} (Ok d) (Ok e) → e ≡ d
same_date d e p = cc

pub has_date : (moment : ℕ) (date : Calendar) → moment < end_of_time → Ok date ≡ date_answer (moment / day_length) → date_of (moment / day_length) ≡ date
has_date moment date h e = same_date date (date_of (moment / day_length)) (e ∙ in_range moment h)

clash : (n : Refusal) (d : Calendar) → Err n ≡ Ok d → ⊥
clash n d p = let z : ◌≡◌ {A = ℕ} 0 1 = cc in absurd (omega arith)

pub no_refusal : (moment : ℕ) (n : Refusal) → moment < end_of_time → Err n ≡ date_answer (moment / day_length) → ⊥
no_refusal moment n h e = clash n (date_of (moment / day_length)) (e ∙ in_range moment h)

pub stamp_length : (moment : ℕ) → length (stamp_text moment) ≡ 23
unfolding stamp_text
stamp_length moment = rw (length-append, length-append, date_length (date_of (moment / day_length)), time_length (moment % day_length)) (omega arith)
