-- Document 01, "Root, sine and cosine": sine and cosine of an angle in parts, 3,600,000,000,000 to the circle.
use Rattle.base.specs.declared.Refusal.{Refusal}
use Rattle.std.specs.Prelude.{List, [], ◌∷◌, ℕ, zero, suc, ◌-◌, ◌*◌, ◌/◌, ◌%◌, get_or, pos, negsuc, Float, Result, Ok, Err}
use Rattle.std.specs.Float.{binary64}
use Rattle.std.specs.Float.Ieee.{neg, of_int}
use Rattle.base.specs.Limits.{circle}
use Rattle.base.specs.Floats.{◌⊕◌, ◌⊗◌, ◌⊘◌, whole, decimal}
use Rattle.base.specs.Choice.{if◌then◌otherwise◌, ◌<?◌, ◌=?◌}
use Rattle.sine.specs.declared.SineCosine.{SineCosine}

abbrev pub octant : ℕ
octant = 450_000_000_000

-- "x is r for even q, 450,000,000,000 - r for odd q"
unfoldable pub within : ℕ → ℕ → ℕ
within q r = if q % 2 =? 0 then r otherwise octant - r

-- "c the float nearest 0.017453292519943295"
abbrev pub c : Float
c = decimal 17_453_292_519_943_295 1_000_000_000_000_000_000

-- "a = (x / 10^10)·c"
unfoldable pub angle : ℕ → Float
angle x = (whole x ⊘ whole 10_000_000_000) ⊗ c

abbrev pub factorial : ℕ → ℕ
factorial zero = 1
factorial (suc n) = suc n * factorial n

-- (-1)^k / n!, "one float quotient"
abbrev pub coefficient : ℕ → ℕ → Float
coefficient k n = of_int binary64 (if k % 2 =? 0 then pos 1 otherwise negsuc 0) ⊘ whole (factorial n)

-- n is 2k + 1 for the sine, 2k for the cosine
abbrev pub sine_coefficients : List Float
sine_coefficients =
    coefficient 0 1 ∷ coefficient 1 3 ∷ coefficient 2 5 ∷ coefficient 3 7 ∷ coefficient 4 9 ∷ coefficient 5 11 ∷ coefficient 6 13 ∷ []

abbrev pub cosine_coefficients : List Float
cosine_coefficients =
    coefficient 0 0
    ∷ coefficient 1 2
    ∷ coefficient 2 4
    ∷ coefficient 3 6
    ∷ coefficient 4 8
    ∷ coefficient 5 10
    ∷ coefficient 6 12
    ∷ coefficient 7 14
    ∷ []

-- "by Horner from the highest k (multiply by z, add the next)"
abbrev pub horner : Float → List Float → Float
horner z [] = whole 0
horner z (c0 ∷ []) = c0
horner z (c0 ∷ c1 ∷ rest) = horner z (c1 ∷ rest) ⊗ z ⊕ c0

-- the table: the sine and the cosine, for q from 0 to 7
unfoldable pub column : ℕ → Float → Float → SineCosine
column q S C =
    get_or
    (both S C
    ∷ both C S
    ∷ both C (neg S)
    ∷ both S (neg C)
    ∷ both (neg S) (neg C)
    ∷ both (neg C) (neg S)
    ∷ both (neg C) S
    ∷ both (neg S) C
    ∷ [])
    q
    (both S C)
  where
    both : Float → Float → SineCosine
    both sine cosine = record { sine = sine; cosine = cosine }

-- S and C of the angle a, with z = a·a
unfoldable pub S : Float → Float
S a = a ⊗ horner (a ⊗ a) sine_coefficients

unfoldable pub C : Float → Float
C a = horner (a ⊗ a) cosine_coefficients

unfoldable pub sine_cosine : ℕ → SineCosine
sine_cosine parts =
    let q = parts / octant in
    let a = angle (within q (parts % octant)) in
    column q (S a) (C a)

-- "parts below one circle", 12 otherwise
unfoldable pub sine_cosine_answer : ℕ → Result SineCosine Refusal
sine_cosine_answer parts = if parts <? circle then Ok (sine_cosine parts) otherwise Err Refusal.Angle
