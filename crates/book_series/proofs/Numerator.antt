-- The signed number 2(t - s) - L, as document 01 writes it and as the machine computes it. Assumes nothing.
use Prim.Native.Nat.{ℕ, zero, suc, ◌+◌, ◌-◌, ◌*◌, ◌^◌, ◌<◌, ◌≤◌, zero-le}
use mathlib.Core.Bool.{Bool, true, false, cond}
use mathlib.Core.Path.{◌≡◌, refl, sym, ap, ◌∙◌}
use lib.Dec.{T, ltb, lt→ltb, le→leb}
use lib.IntN.{ℤ, pos, negsuc, sub_ℕ, ◌-ℤ◌, ◌*ℤ◌}
use lib.Signed.{mag}
use lib.Ieee.{binary64, in_float}
use mir.Syntax.{w64}
use mir.Val.{SFits, to_z, of_z}
use mir.ValLaws.{to_z-of_z, to_z_pos}
use borrow.Author.Tests.{le-ltb}
use native.Mathlib.Nat.{add-zero, sub-zero}
use Rattle.book_series.specs.Series.{InSpan}
use native.Mathlib.Omega.{arith}

minus : (a b : ℕ) → pos a -ℤ pos b ≡ sub_ℕ a b
minus a zero = ap pos (add-zero a ∙ sym (sub-zero a)) ∙ simp (le-ltb a 0 zero-le)
minus a (suc b) = refl

minus_up : (a b : ℕ) → b ≤ a → pos a -ℤ pos b ≡ pos (a - b)
minus_up a b le = minus a b ∙ simp (le-ltb a b le)

small_minus : (a b : ℕ) → a < 2 ^ 44 → b < 2 ^ 44 → mag (pos a -ℤ pos b) < 2 ^ 44
small_minus a b p q = rw minus (by (ltb a b))
  where
    by : (x : Bool) → mag (cond x (negsuc (b - suc a)) (pos (a - b))) < 2 ^ 44
    by true = omega arith
    by false = omega arith

-- a number without its sign
abbrev pub size : ℤ → ℕ
size (pos n) = n
size (negsuc n) = suc n

minus_size : (a b L : ℕ) → 1 ≤ L → a ≤ b + L → b ≤ a + L → size (pos a -ℤ pos b) ≤ L
minus_size a b L one p q = rw minus (by (ltb a b))
  where
    by : (x : Bool) → size (cond x (negsuc (b - suc a)) (pos (a - b))) ≤ L
    by true = omega arith
    by false = omega arith

small_fits : (z : ℤ) → mag z < 2 ^ 44 → SFits w64 z
small_fits z h = record { sfits = omega arith }

small_in_float : (z : ℤ) → mag z < 2 ^ 44 → T (in_float binary64 z)
unfolding in_float
small_in_float (pos n) h = le→leb n (2 ^ 53) (omega arith)
small_in_float (negsuc n) h = lt→ltb n (2 ^ 53) (omega arith)

small_back : (n : ℕ) → n < 2 ^ 44 → to_z w64 n ≡ pos n
small_back n h = to_z_pos w64 n (omega arith)

-- of a moment that an entry covers
module _ {start span t : ℕ} (v : InSpan start span t) where
  abbrev numerator : ℤ
  numerator = pos (2 * (t - start)) -ℤ pos span

  pub span_back : to_z w64 span ≡ pos span
  span_back = small_back span (omega arith)

  pub span_in_float : T (in_float binary64 (pos span))
  span_in_float = small_in_float (pos span) (omega arith)

  pub twice_fits : SFits w64 (pos 2 *ℤ to_z w64 (t - start))
  twice_fits = rw (small_back (t - start) (omega arith)) (small_fits (pos (2 * (t - start))) (omega arith))

  numerator_small : mag numerator < 2 ^ 44
  numerator_small = small_minus (2 * (t - start)) span (omega arith) (omega arith)

  pub numerator_fits : SFits w64 numerator
  numerator_fits = small_fits numerator numerator_small

  pub numerator_in_float : T (in_float binary64 numerator)
  numerator_in_float = small_in_float numerator numerator_small

  -- what the machine reads back of its bits
  pub numerator_back : to_z w64 (of_z w64 numerator) ≡ numerator
  numerator_back = to_z-of_z w64 numerator numerator_fits

  pub worked_out : to_z w64 (of_z w64 (pos 2 *ℤ to_z w64 (t - start))) -ℤ to_z w64 span ≡ numerator
  worked_out = rw (to_z-of_z w64 (pos 2 *ℤ to_z w64 (t - start)) twice_fits, small_back (t - start) (omega arith), span_back)

  pub as_written : pos 2 *ℤ (pos t -ℤ pos start) -ℤ pos span ≡ numerator
  as_written = rw (minus_up t start v.from)

  -- it is at most L in size
  pub span_size : 1 ≤ span → size (pos 2 *ℤ (pos t -ℤ pos start) -ℤ pos span) ≤ span
  span_size one = rw as_written (minus_size (2 * (t - start)) span span one (omega arith) (omega arith))
