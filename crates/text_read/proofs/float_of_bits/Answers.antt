-- `text_read::float_of_bits` meets its contract: beyond an infinity's bits, the sign left out, every pattern is a NaN's. Assumes nothing.
use Prim.Native.Nat.{ℕ, ◌%◌, ◌<◌, ◌≤◌}
use mathlib.Core.Bool.{true, not}
use mathlib.Core.Path.{◌≡◌, refl, sym, ap, subst, ◌∙◌}
use lib.Dec.{T}
use lib.Ieee.{Float, nan, inf, fin, binary64, of_bits, nan_bits, is_nan, add, sub, neg}
use lib.Ieee.Bits.{nan_bits_is, nan_bits_above}
use borrow.Author.Rules.{rules}
use borrow.Author.Tests.{lt-ltb, le-ltb}
use Rattle.text_read.proofs.float_of_bits.Goals as goal

is-nan : (x : Float) → is_nan x ≡ true → nan ≡ x
unfolding is_nan
is-nan nan h = refl
is-nan (inf s) h = cc
is-nan (fin s m e) h = cc

number : (n : ℕ) → n % 0x8000_0000_0000_0000 ≤ 0x7ff0_0000_0000_0000 → T (not (nan_bits binary64 n))
number n h = subst T (sym (ap not (nan_bits_above binary64 n ∙ le-ltb 0x7ff0_0000_0000_0000 (n % 0x8000_0000_0000_0000) h))) tt

no_number : (n : ℕ) → 0x7ff0_0000_0000_0000 < n % 0x8000_0000_0000_0000 → nan ≡ of_bits binary64 n
no_number n h = is-nan (of_bits binary64 n) (sym (nan_bits_is binary64 n) ∙ nan_bits_above binary64 n ∙ lt-ltb 0x7ff0_0000_0000_0000 (n % 0x8000_0000_0000_0000) h)

pub float_from_bits-result : goal.float_from_bits-result
float_from_bits-result c = number c.args.bits c.if-bits-le9218868437227405312.true

pub float_from_bits-infinity : goal.float_from_bits-infinity
unfolding nan_bits
float_from_bits-infinity c = search rules

pub returns : goal.returns
unfolding of_bits sub add neg
returns c = no_number c.args.bits c.if-bits-le9218868437227405312.false
