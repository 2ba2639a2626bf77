-- Document 01: "Float" is IEEE 754 binary64, round to nearest even, one rounding for each written operation. A circle marks an operation on
-- floats: x ⊕ y is the float nearest to the sum.
use Rattle.std.specs.Prelude.{ℕ, Bool, false, pos, Float}
use Rattle.std.specs.Float.{binary64}
use Rattle.std.specs.Float.Ieee.{add, sub, mul, div, lt, of_bits, of_int, round}

infixl 60 ◌⊕◌ ◌⊖◌
infixl 70 ◌⊗◌ ◌⊘◌
abbrev pub ◌⊕◌ : Float → Float → Float
x ⊕ y = add binary64 x y

abbrev pub ◌⊖◌ : Float → Float → Float
x ⊖ y = sub binary64 x y

abbrev pub ◌⊗◌ : Float → Float → Float
x ⊗ y = mul binary64 x y

abbrev pub ◌⊘◌ : Float → Float → Float
x ⊘ y = div binary64 x y

-- +0.0, whose bits are all 0
abbrev pub zero64 : Float
zero64 = of_bits binary64 0

abbrev pub above0 : Float → Bool
above0 x = lt zero64 x

abbrev pub below0 : Float → Bool
below0 x = lt x zero64

-- a whole number as a float
abbrev pub whole : ℕ → Float
whole n = of_int binary64 (pos n)

-- the float nearest to the fraction n / d: how a decimal number of the document is read
abbrev pub decimal : ℕ → ℕ → Float
decimal n d = round binary64 false n d
