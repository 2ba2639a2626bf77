-- Floats without a minus sign; rounding adds none. Assumes nothing.
use mathlib.Core.Bool.{Bool, true, false, not, cond}
use Prim.Native.Nat.{ℕ, zero, suc, ◌*◌, ◌^◌}
use lib.Dec.{T, ltb}
use lib.Ieee.{Float, nan, inf, fin, Format, low, prec, odd, units, round}
use lib.Ieee.Scale.{overflow}

-- a NaN, or without a minus sign
abbrev pub clear : Float → Bool
clear nan = true
clear (inf s) = not s
clear (fin s m e) = not s

pub odd_clear : (d q k l : ℕ) → T (clear (odd d false q k l))
unfolding odd
odd_clear d zero k l = tt
odd_clear d (suc q) k l = tt

units_clear : (f : Format) (q k : ℕ) → T (clear (units f false q k))
unfolding units
units_clear f q k = go (ltb (q * 2 ^ k) (overflow f))
  where
    go : (b : Bool) → T (clear (cond b (odd (suc (prec f)) false q k (low f)) (inf false)))
    go true = odd_clear (suc (prec f)) q k (low f)
    go false = tt

pub round_clear : (f : Format) (a c : ℕ) → T (clear (round f false a c))
unfolding round
round_clear f a c = units_clear f _ _
