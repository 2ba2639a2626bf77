-- The digits of a number in halves. Assumes nothing.
use Prim.Native.Nat.{ℕ, zero, suc, ◌+◌, ◌*◌, ◌/◌, ◌%◌, ◌^◌, ◌<◌, ◌≤◌}
use mathlib.Core.List.{List, ◌++◌, append_assoc, append-nil}
use mathlib.Core.Path.{◌≡◌, refl}
use native.Mathlib.Nat.{add-zero, mul-one, mul_assoc, pow-zero, pow-succ', div-one, div-div-eq-div-mul, mul-le-mul, mod-lt}
use native.Mathlib.Omega.{arith}
use lib.Ieee.{Float}
use lib.ListN.{length, set, length-append, length-set}
use Rattle.text_write.specs.Written.{Wrote}
use Rattle.text_write.specs.Numerals.{glyph, digits, bits_text, float_text}
use Rattle.text_read.specs.Patterns.{bits_of}
use Rattle.text_read.specs.declared.Bits.{Bits}
use Rattle.text_read.specs.declared.Bits.TheVariants.{Pattern, NaN}
use borrow.Author.Tests.{lt-ltb, le-ltb}
use Rattle.text_write.proofs.Writing.{both, byte}
use Rattle.text_write.proofs.Decimal.{by_size}

pub length_digits : (base k n : ℕ) → length (digits base k n) ≡ k
unfolding digits
length_digits base zero n = refl
length_digits base (suc k) n = rw (length-append, length_digits base k (n / base)) (omega arith)

-- more digits are those of n / base^k, and then the last k
pub digits_split : (base j k n : ℕ) → digits base (j + k) n ≡ digits base j (n / base ^ k) ++ digits base k n
unfolding digits
digits_split base j zero n = rw (add-zero, pow-zero, div-one, append-nil)
digits_split base j (suc k) n =
    let e : j + suc k ≡ suc (j + k) = omega arith in
    rw (e, digits_split base j k (n / base), append_assoc, div-div-eq-div-mul n base (base ^ k), ← pow-succ' base k)

-- one half written after the other, by a divisor d
pub halves : (base j k n d : ℕ) {at m r : ℕ} {a b c : List ℕ} → d ≡ base ^ k → Wrote a at (digits base j (n / d)) b m → Wrote b m (digits base k n) c r
    → Wrote a at (digits base (j + k) n) c r
halves base j k n d e w v = rw (digits_split base j k n, ← e) (both w v)

-- the last two digits, byte by byte
pub two_digits : (base n at : ℕ) (out : List ℕ) → at + 2 ≤ length out
    → Wrote out at (digits base 2 n) (set (set out at (glyph (n / base % base))) (at + 1) (glyph (n % base))) (at + 2)
unfolding digits
two_digits base n at out h =
    let e : at + 2 ≡ at + 1 + 1 = omega arith in
    rw e (both (byte out at (glyph (n / base % base)) (omega arith)) (byte (set out at (glyph (n / base % base))) (at + 1) (glyph (n % base)) (rw length-set (omega arith))))

-- 39 bytes lie between 9 and a
pub letter : (d : ℕ) → d < 16 → 48 + d + (d + 6) / 16 * 39 ≡ glyph d
letter d h = by_size d (λ small. rw (lt-ltb d 10 small) (omega arith)) (λ big. rw (le-ltb d 10 big) (omega arith))

-- a base of at most 16: its digits, its square, and the square's
pub digit_fits : (n base : ℕ) → 1 ≤ base → base ≤ 16 → n % base < 16
digit_fits n base h g = let l : n % base < base = mod-lt n (omega arith) in omega arith

pub square_fits : (base : ℕ) → base ≤ 16 → base * base ≤ 256
square_fits base h = mul-le-mul h h

pub square_again : (base : ℕ) → base ≤ 16 → base * base * (base * base) ≤ 65_536
square_again base h = mul-le-mul (square_fits base h) (square_fits base h)

pub square_is : (base : ℕ) → base * base ≡ base ^ 2
square_is base = rw (pow-succ' base 1, pow-succ' base 0, pow-zero, mul-one)

pub square_again_is : (base : ℕ) → base * base * (base * base) ≡ base ^ 4
square_again_is base = rw (pow-succ' base 3, pow-succ' base 2, ← square_is base, mul_assoc)

bits_fit : (b : Bits) → length (bits_text b) ≤ 16
bits_fit (Pattern bits) = rw (length_digits 16 16 bits) (omega arith)
bits_fit NaN = omega arith

pub float_fits : (x : Float) → length (float_text x) ≤ 16
unfolding float_text
float_fits x = bits_fit (bits_of x)
