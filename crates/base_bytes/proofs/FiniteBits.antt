-- A float is finite exactly if its bits without the sign are below those of infinity; then they are not a NaN's. Assumes nothing.
use Prim.Native.Nat.{ℕ, zero, suc, ◌+◌, ◌/◌, ◌%◌, ◌<◌}
use mathlib.Core.Bool.{Bool, true, false, not, cond}
use mathlib.Core.Path.{◌≡◌, refl, sym, subst, ◌∙◌}
use lib.Dec.{T, ltb, leb, eqb}
use lib.Ieee.{Float, nan, inf, fin, binary64, of_bits, of_fields, odd, nan_bits, is_nan, hid, top, low}
use lib.Ieee.Bits.{nan_bits_is}
use lib.Ieee.Scale.{finite}
use native.Mathlib.Omega.{arith}
use borrow.Author.Tests.{lt-ltb, le-ltb, eqb-true, eqb-false}

finite_not_nan : (x : Float) → finite x ≡ true → T (not (is_nan x))
unfolding is_nan
finite_not_nan nan h = subst T (sym h) tt
finite_not_nan (inf s) h = tt
finite_not_nan (fin s m e) h = tt

pub finite_no_nan : (n : ℕ) → finite (of_bits binary64 n) ≡ true → T (not (nan_bits binary64 n))
finite_no_nan n h = rw nan_bits_is (finite_not_nan (of_bits binary64 n) h)

odd_finite : (d : ℕ) (s : Bool) (q k l : ℕ) → finite (odd d s q k l) ≡ true
unfolding odd
odd_finite d s zero k l = refl
odd_finite d s (suc q) k l = refl

special : (s b : Bool) → finite (cond b (inf s) nan) ≡ false
special s true = refl
special s false = refl

chosen : (s : Bool) (t x : ℕ) (e : Bool) → finite (cond e (cond (eqb t 0) (inf s) nan) (odd 53 s (hid binary64 + t) x (low binary64))) ≡ not e
chosen s t x true = special s (eqb t 0)
chosen s t x false = odd_finite 53 s (hid binary64 + t) x (low binary64)

fields : (s : Bool) (x t : ℕ) → finite (of_fields binary64 s x t) ≡ not (eqb x 2047)
unfolding of_fields
fields s zero t = odd_finite 53 s t 0 (low binary64)
fields s (suc x) t = chosen s t x (eqb (suc x) 2047)

below_infinity : (m : ℕ) (e : Bool) → m < 0x8000_0000_0000_0000 → eqb (m / 0x10_0000_0000_0000) 2047 ≡ e → ltb m 0x7ff0_0000_0000_0000 ≡ not e
below_infinity m true lt h = let q : m / 0x10_0000_0000_0000 ≡ 2047 = eqb-true _ _ h in le-ltb m 0x7ff0_0000_0000_0000 (omega arith)
below_infinity m false lt h = let q : m / 0x10_0000_0000_0000 ≡ 2047 → ⊥ = eqb-false _ _ h in lt-ltb m 0x7ff0_0000_0000_0000 (omega arith)

pub finite_bits_lem : (n : ℕ) → finite (of_bits binary64 n) ≡ ltb (n % 0x8000_0000_0000_0000) 0x7ff0_0000_0000_0000
unfolding of_bits
finite_bits_lem n =
    fields (leb (top binary64) n) (n % top binary64 / hid binary64) (n % hid binary64)
    ∙ sym (below_infinity (n % 0x8000_0000_0000_0000) (eqb (n % 0x8000_0000_0000_0000 / 0x10_0000_0000_0000) 2047) (omega arith) refl)
