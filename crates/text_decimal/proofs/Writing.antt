-- The numeral's text: its parts one after the other, and how long it is. Assumes nothing.
use Prim.Native.Nat.{ℕ, ◌+◌, ◌*◌, ◌/◌, ◌%◌, ◌^◌, ◌<◌, ◌≤◌}
use mathlib.Core.Bool.{Bool, true, false, ◌&&◌, true≢false}
use mathlib.Core.List.{List, [], ◌∷◌, ◌++◌}
use mathlib.Core.Path.{◌≡◌}
use native.Mathlib.Nat.{mul_right_comm, mul-le-mul_right, le_of_lt, le_trans, le_of_eq}
use native.Mathlib.Omega.{arith}
use lib.Dec.{leb, ltb}
use lib.ListN.{length, set, length-append}
use lib.Ieee.{Float, nan, inf, fin, binary64, up, down, of_bits}
use lib.Ieee.Fits.{down_pos}
use borrow.Author.Tests.{lt-ltb, leb-false}
use Rattle.base.specs.Choice.{if◌then◌otherwise◌}
use Rattle.text_write.specs.Numerals.{digits, decimal_of}
use Rattle.text_write.specs.Written.{Wrote}
use Rattle.text_write.proofs.Writing.{byte}
use Rattle.text_write.proofs.Digits.{length_digits, two_digits}
use Rattle.text_write.proofs.Decimal.{decimal_length}
use Rattle.text_decimal.specs.declared.Places.{Places}
use Rattle.text_decimal.specs.declared.Places.TheVariants.{Three, Six}
use Rattle.text_decimal.specs.Nearest.{nearest_to}
use Rattle.text_decimal.specs.Numeral.{count, unit_of, units_in, is_negative, sign_of, units_text, numeral, is_large}
use Rattle.text_decimal.proofs.Rounding.{nearest_is, at_most}
use Rattle.text_decimal.proofs.Values.{sign_bits}

-- ---- digits

pub two_written : (n at : ℕ) (out : List ℕ) → at + 2 ≤ length out → Wrote out at (digits 10 2 n) (set (set out at (48 + n / 10 % 10)) (at + 1) (48 + n % 10)) (at + 2)
two_written n at out h = rw (lt-ltb (n / 10 % 10) 10 (omega arith), lt-ltb (n % 10) 10 (omega arith)) at (two_digits 10 n at out h)

pub one_written : (n at : ℕ) (out : List ℕ) → at < length out → Wrote out at (digits 10 1 n) (set out at (48 + n % 10)) (at + 1)
unfolding digits
one_written n at out h = rw (lt-ltb (n % 10) 10 (omega arith)) (byte out at (48 + n % 10) h)

-- ---- the sign

pub sign_short : (negative : Bool) (q : ℕ) → length (sign_of negative q) ≤ 1
unfolding sign_of
sign_short negative q = go (negative && ltb 0 q)
  where
    go : (b : Bool) → length {A = ℕ} (if b then 45 ∷ [] otherwise []) ≤ 1
    go true = omega arith
    go false = omega arith

pub sign_next : (negative : Bool) (q : ℕ) {a b : List ℕ} {at r : ℕ} → Wrote a at (sign_of negative q) b r → r ≤ at + 1
sign_next negative q w = omega (arith, w.next, sign_short negative q)

-- ---- the digits before the point

pub units_most : (unit : ℕ) (x : Float) → is_large x ≡ false → units_in unit x ≤ 1_000_000_000_000 * unit
unfolding units_in is_large
units_most unit nan h = absurd (true≢false h)
units_most unit (inf s) h = absurd (true≢false h)
units_most unit (fin s m e) h =
    let l : m * up e ≤ 1_000_000_000_000 * down e = le_of_lt (leb-false (1_000_000_000_000 * down e) (m * up e) h) in
    at_most (m * up e * unit) (down e) (nearest_to (m * up e * unit) (down e)) (1_000_000_000_000 * unit) (down_pos e) (nearest_is (m * up e * unit) (down e) (down_pos e))
    (le_trans (mul-le-mul_right unit l) (le_of_eq (mul_right_comm 1_000_000_000_000 (down e) unit)))

before_point : (places : Places) (q : ℕ) → q ≤ 1_000_000_000_000 * unit_of places → length (decimal_of (q / unit_of places)) ≤ 13
before_point Three q h = decimal_length 12 (q / 1000) (omega arith)
before_point Six q h = decimal_length 12 (q / 1_000_000) (omega arith)

few_places : (places : Places) → count places ≤ 6
few_places Three = omega arith
few_places Six = omega arith

module _ (places : Places) (unit q : ℕ) (x : Float) (e : unit ≡ unit_of places) (f : q ≡ units_in unit x) (h : is_large x ≡ false) where
  pub whole_short : length (decimal_of (q / unit)) ≤ 13
  whole_short = rw (f, e) (before_point places (units_in (unit_of places) x) (units_most (unit_of places) x h))

module _ (places : Places) (unit q bits : ℕ) (e : unit ≡ unit_of places) (f : q ≡ units_in unit (of_bits binary64 bits)) (h : is_large (of_bits binary64 bits) ≡ false) where
  pub assembled : (a b : List ℕ) (at r : ℕ)
      → Wrote a at (sign_of (leb (2 ^ 63) bits) q ++ decimal_of (q / unit) ++ (46 ∷ []) ++ digits 10 (count places) q) b r → Wrote a at (numeral places (of_bits binary64 bits)) b r
  unfolding numeral units_text
  assembled a b at r w = rw (sign_bits bits h, ← e, ← f) w

-- a numeral has at most 21 bytes
pub numeral_short : (places : Places) (x : Float) → is_large x ≡ false → length (numeral places x) ≤ 21
unfolding numeral units_text
numeral_short places x h =
    let q = units_in (unit_of places) x in
    let s : length (sign_of (is_negative x) q) ≤ 1 = sign_short (is_negative x) q in
    let w : length (decimal_of (q / unit_of places)) ≤ 13 = before_point places q (units_most (unit_of places) x h) in
    let p : count places ≤ 6 = few_places places in
    rw (length-append, length-append, length-append, length_digits 10 (count places) q) (omega arith)
