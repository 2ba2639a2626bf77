-- How long a number's text is: never empty, and at most 20 bytes, or 16 of a float.
use Prim.Native.Nat.{ℕ, ◌<◌, ◌≤◌}
use native.Mathlib.Omega.{arith}
use lib.ListN.{length}
use lib.Ieee.{Float, nan, inf, fin, binary64, to_bits}
use mir.Syntax.{w64}
use mir.Val.{Fits}
use Rattle.text_write.specs.Numerals.{hex16, float_text, decimal_of}
use Rattle.text_write.proofs.Decimal.{decimal_some, decimal_fits}
use Rattle.text_write.proofs.Digits.{length_digits}

pub record Short (most n : ℕ) : Type 0 where
  pub some : 0 < n
  pub fits : n ≤ most

pub number_short : (n : ℕ) → Fits w64 n → Short 20 (length (decimal_of n))
number_short n f = record { some = decimal_some n; fits = decimal_fits n f.fits }

hex_short : (bits : ℕ) → Short 16 (length (hex16 bits))
hex_short bits = rw (length_digits 16 16 bits) (record { some = omega arith; fits = omega arith })

pub float_short : (x : Float) → Short 16 (length (float_text x))
unfolding float_text
float_short nan = record { some = omega arith; fits = omega arith }
float_short (inf s) = hex_short (to_bits binary64 (inf s))
float_short (fin s m e) = hex_short (to_bits binary64 (fin s m e))
