-- What follows from the tests of a float in the code. Assumes nothing.
use mathlib.Core.Path.{◌≡◌, sym, ap, ◌∙◌, subst}
use mathlib.Core.Bool.{true, false, not, false≢true}
use mathlib.Core.Logic.{inl, inr}
use Prim.Native.Nat.{ℕ, zero, suc, ◌+◌, ◌*◌, ◌<◌}
use native.Mathlib.Nat.{mul-pos, zero-lt-suc, eq-zero-or-pos}
use native.Mathlib.Omega.{arith}
use lib.Dec.{T, ltb→lt, lt→ltb}
use lib.IntN.{ℤ}
use lib.Ieee.{Float, nan, inf, fin, binary64, up, down, of_bits, to_bits, fits, is_nan, lt, sub}
use lib.Ieee.Bits.{of_bits-to_bits}
use lib.Ieee.Fits.{up_pos}
use lib.Ieee.Positive.{positive}
use borrow.Author.Tests.{ltb-true, lt-ltb}

-- +0.0 and +infinity, as the code writes them
abbrev pub null : Float
null = of_bits binary64 0

abbrev pub top : Float
top = of_bits binary64 0x7ff0_0000_0000_0000

-- ---- above and below zero

pub number_above : (m : ℕ) (e : ℤ) → lt null (fin false (suc m) e) ≡ true
unfolding lt of_bits
number_above m e = lt-ltb (0 * down e) (suc m * up e * 1) (omega (arith, mul-pos (zero-lt-suc m) (up_pos e)))

pub number_below : (m : ℕ) (e : ℤ) → lt (fin true (suc m) e) null ≡ true
unfolding lt of_bits
number_below m e = lt-ltb 0 (suc m * up e * 1 + 0 * down e) (omega (arith, mul-pos (zero-lt-suc m) (up_pos e)))

zero_not_above : (e : ℤ) → lt null (fin false zero e) ≡ true → ⊥
unfolding lt of_bits
zero_not_above e h = let l = ltb-true (0 * down e) (0 * up e * 1) h in omega arith

pub above_no_nan : (x : Float) → lt null x ≡ true → T (not (is_nan x))
unfolding lt of_bits is_nan
above_no_nan nan h = absurd (false≢true h)
above_no_nan (inf s) h = tt
above_no_nan (fin s m e) h = tt

null_not_above : lt null null ≡ true → ⊥
unfolding lt of_bits
null_not_above h = false≢true h

pub above_bits : (x : Float) → T (fits binary64 x) → lt null x ≡ true → 0 < to_bits binary64 x
above_bits x p h = elim (eq-zero-or-pos (to_bits binary64 x)) [
  | inl z ↦ absurd (null_not_above (subst (λ (y : Float). lt null y ≡ true) (sym (of_bits-to_bits binary64 x p) ∙ ap (of_bits binary64) z) h))
  | inr q ↦ q
]

pub positive_above : (x : Float) → T (positive x) → lt null x ≡ true
positive_above nan p = elim p [ ]
positive_above (inf _) p = elim p [ ]
positive_above (fin true _ e) p = elim p [ ]
positive_above (fin false zero e) p = absurd (omega (arith, ltb→lt 0 0 p))
positive_above (fin false (suc m) e) p = number_above m e

pub above_positive : (x : Float) → lt null x ≡ true → lt x top ≡ true → T (positive x)
unfolding lt of_bits
above_positive nan h k = absurd (false≢true h)
above_positive (inf true) h k = absurd (false≢true h)
above_positive (inf false) h k = absurd (false≢true k)
above_positive (fin true m e) h k = absurd (false≢true h)
above_positive (fin false zero e) h k = absurd (zero_not_above e h)
above_positive (fin false (suc m) e) h k = lt→ltb 0 (suc m) (zero-lt-suc m)
