-- The scan after one more byte agrees with the line: a law of its definition. Assumes nothing.
use Prim.Native.Nat.{ℕ, ◌+◌, ◌-◌, ◌*◌, ◌%◌, ◌<◌, ◌≤◌}
use mathlib.Core.Bool.{Bool, true, false}
use mathlib.Core.Path.{◌≡◌, refl}
use native.Mathlib.Omega.{arith}
use borrow.Author.Tests.{lt-ltb, le-ltb, ltb-true, ltb-false, eq-eqb, ne_eqb, eqb-true, eqb-false}
use lib.Dec.{ltb, eqb}
use lib.ListN.{length, get_or}
use Rattle.base.specs.Limits.{end_of_time}
use Rattle.listing_scan.specs.declared.Row.{Row}
use Rattle.listing_scan.specs.declared.Word.{Word}
use Rattle.listing_scan.specs.declared.Word.TheVariants.{Strip, Arrived, Refused, Steps}
use Rattle.listing_scan.specs.declared.Scan.{Scan}
use Rattle.listing_scan.specs.declared.Scan.TheVariants.{Start, Letters, Digits, Moment, Component, Behind, Bad}
use Rattle.listing_scan.specs.Reading.{is_decimal, hex_value, appended, finite_bits, blank}
use Rattle.listing_scan.specs.Bytes.{letters_of, Spaced, on_first, on_letter, behind_number, on_digit, on_behind, on_moment, on_hex, on_byte, Takes}
use Rattle.listing_scan.proofs.Bytes.{decimal_most, added, first_strip, first_arrived, first_refused, first_digit, first_bad, next_letter}
use Rattle.listing_scan.proofs.Bytes.{other_letter, number_digit, number_bad, number_space, number_on, number_stops, zero_alone}
use Rattle.listing_scan.proofs.Bytes.{spaced_refused, spaced_strip, spaced_arrived, spaced_steps, moment_digit, moment_ends, zero_ends}
use Rattle.listing_scan.proofs.Bytes.{range_ends, row_over, row_space, row_bad, no_hex, hex_on, hex_last, hex_infinite, bad_stays}

-- ---- cases

by_bool : (t : Bool) {P : Type 0} → (t ≡ true → P) → (t ≡ false → P) → P
by_bool true h k = h refl
by_bool false h k = k refl

pub by_eq : (m n : ℕ) {P : Type 0} → (m ≡ n → P) → ((m ≡ n → ⊥) → P) → P
by_eq m n h k = by_bool (eqb m n) (λ e. h (eqb-true m n e)) (λ e. k (eqb-false m n e))

by_less : (m n : ℕ) {P : Type 0} → (m < n → P) → (n ≤ m → P) → P
by_less m n h k = by_bool (ltb m n) (λ e. h (ltb-true m n e)) (λ e. k (ltb-false m n e))

-- ---- one byte on

first_takes : (b : ℕ) → Takes Start b (on_first b)
first_takes b =
    by_eq b 83 (λ e. rw (eq-eqb b 83 e) (first_strip b e))
    (λ h.
    by_eq b 65 (λ e. rw (ne_eqb b 83 h, eq-eqb b 65 e) (first_arrived b e))
    (λ a.
    by_eq b 82 (λ e. rw (ne_eqb b 83 h, ne_eqb b 65 a, eq-eqb b 82 e) (first_refused b e))
    (λ r.
    by_bool (is_decimal b) (λ e. rw (ne_eqb b 83 h, ne_eqb b 65 a, ne_eqb b 82 r, e) (first_digit b h a r e))
    (λ e. rw (ne_eqb b 83 h, ne_eqb b 65 a, ne_eqb b 82 r, e) (first_bad b h a r e)))))

letter_takes : (w : Word) (i b : ℕ) → Takes (Letters w i) b (on_letter w i b)
letter_takes w i b =
    by_less i (length (letters_of w))
    (λ h.
    by_eq b (get_or (letters_of w) i 0)
    (λ e. rw (lt-ltb i (length (letters_of w)) h, eq-eqb b (get_or (letters_of w) i 0) e) (next_letter w i b h e))
    (λ n. rw (lt-ltb i (length (letters_of w)) h, ne_eqb b (get_or (letters_of w) i 0) n) (other_letter w i b h n)))
    (λ h.
    by_bool (is_decimal b)
    (λ e. rw (le-ltb i (length (letters_of w)) h, e) (number_digit w i b h e (ltb 48 b) refl))
    (λ e. rw (le-ltb i (length (letters_of w)) h, e) (number_bad w i b h e)))

number_spaced : (w : Word) → Spaced w (behind_number w)
number_spaced Refused = spaced_refused
number_spaced Strip = spaced_strip
number_spaced Arrived = spaced_arrived
number_spaced Steps = spaced_steps

digit_takes : (w : Word) (more : Bool) (b : ℕ) → Takes (Digits w more) b (on_digit w more b)
digit_takes w more b =
    by_eq b 32 (λ e. rw (eq-eqb b 32 e) (number_space w b more (behind_number w) e (number_spaced w)))
    (λ n.
    by_bool more
    (λ m.
    by_bool (is_decimal b)
    (λ e. rw (ne_eqb b 32 n, m, e) (number_on w b true n refl e))
    (λ e. rw (ne_eqb b 32 n, m, e) (number_stops w b true n e)))
    (λ m. rw (ne_eqb b 32 n, m) (zero_alone w b false n refl)))

behind_takes : (more : ℕ) (r : Row) (b : ℕ) → Takes (Behind more r) b (on_behind more r b)
behind_takes more r b =
    by_eq more 0 (λ e. rw (eq-eqb more 0 e) (row_over r b more e))
    (λ n.
    by_eq b 32
    (λ e. rw (ne_eqb more 0 n, eq-eqb b 32 e) (row_space r b more n e))
    (λ e. rw (ne_eqb more 0 n, ne_eqb b 32 e) (row_bad r b more n e)))

-- the test by a tenth of the end of time is the test of the moment with its digit
pub moment_fits : (t b : ℕ) → is_decimal b ≡ true → t < 315_576_000_000 → 10 * t + (b - 48) < end_of_time
moment_fits t b e small = omega (arith, decimal_most b e)

pub moment_far : (t b : ℕ) → 315_576_000_000 ≤ t → end_of_time ≤ 10 * t + (b - 48)
moment_far t b far = omega arith

moment_takes : (t b : ℕ) → Takes (Moment t) b (on_moment t b)
moment_takes t b =
    let behind = behind_takes 6 (blank t) b in
    by_bool (is_decimal b)
    (λ e.
    by_less 0 t
    (λ some.
    by_less t 315_576_000_000
    (λ small. rw (e, lt-ltb 0 t some, lt-ltb (10 * t + (b - 48)) end_of_time (moment_fits t b e small)) (moment_digit t b e some small))
    (λ far. rw (e, lt-ltb 0 t some, le-ltb (10 * t + (b - 48)) end_of_time (moment_far t b far)) (range_ends t b (on_behind 6 (blank t) b) behind e far)))
    (λ none. rw (e, le-ltb 0 t none) (zero_ends t b (on_behind 6 (blank t) b) behind e none)))
    (λ e. rw e (moment_ends t b (on_behind 6 (blank t) b) behind e))

module _ (more left bits : ℕ) (r : Row) (b : ℕ) where
  -- as the code adds a digit, and as the definition does
  abbrev next : ℕ
  next = bits % 0x1000_0000_0000_0000 * 16 + hex_value b

  next_is : hex_value b < 16 → appended bits (hex_value b) ≡ next
  next_is h = added bits b (hex_value b) refl h

  hex_takes : Takes (Component more left bits r) b (on_hex more left bits r b)
  hex_takes =
      by_less (hex_value b) 16
      (λ h.
      by_less 0 left
      (λ some. rw (lt-ltb (hex_value b) 16 h, lt-ltb 0 left some, next_is h) (hex_on more bits r b (hex_value b) refl h left some))
      (λ none.
      by_bool (finite_bits next)
      (λ f. rw (lt-ltb (hex_value b) 16 h, le-ltb 0 left none, next_is h, f) (hex_last more bits r b (hex_value b) refl h left none f))
      (λ f. rw (lt-ltb (hex_value b) 16 h, le-ltb 0 left none, next_is h, f) (hex_infinite more bits r b (hex_value b) refl h left none f))))
      (λ h. rw (le-ltb (hex_value b) 16 h) (no_hex more bits r b (hex_value b) refl left h))

pub takes : (s : Scan) (b : ℕ) → Takes s b (on_byte s b)
unfolding on_byte
takes Start b = first_takes b
takes (Letters w i) b = letter_takes w i b
takes (Digits w more) b = digit_takes w more b
takes (Moment t) b = moment_takes t b
takes (Component more left bits r) b = hex_takes more left bits r b
takes (Behind more r) b = behind_takes more r b
takes Bad b = bad_stays b
