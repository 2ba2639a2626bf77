-- How numbers are written: decimal digits, and floats as "their bits as 16 lowercase hexadecimal digits".
use Rattle.std.specs.Prelude.{ℕ, zero, suc, ◌+◌, ◌/◌, ◌%◌, List, [], ◌∷◌, ◌++◌, Float}
use Rattle.base.specs.Choice.{if◌then◌otherwise◌, ◌<?◌}
use Rattle.text_read.specs.Patterns.{bits_of}
use Rattle.text_read.specs.declared.Bits.{Bits}
use Rattle.text_read.specs.declared.Bits.TheVariants.{Pattern, NaN}

-- a digit below 16 as a byte: 0 to 9, then a to f
abbrev pub glyph : ℕ → ℕ
glyph d = if d <? 10 then 48 + d otherwise 87 + d

-- the last k digits of n in a base, highest first
unfoldable pub digits : ℕ → ℕ → ℕ → List ℕ
digits base zero n = []
digits base (suc k) n = digits base k (n / base) ++ (glyph (n % base) ∷ [])

-- a pattern of 64 bits
abbrev pub hex16 : ℕ → List ℕ
hex16 bits = digits 16 16 bits

-- n without a leading zero, 0 itself as one digit; n divisions by ten are enough to get below ten
unfoldable pub shortest : ℕ → ℕ → List ℕ
shortest zero n = glyph n ∷ []
shortest (suc divisions) n = if n <? 10 then glyph n ∷ [] otherwise shortest divisions (n / 10) ++ (glyph (n % 10) ∷ [])

unfoldable pub decimal_of : ℕ → List ℕ
decimal_of n = shortest n n

-- "nan" for a NaN
abbrev pub bits_text : Bits → List ℕ
bits_text NaN = 110 ∷ 97 ∷ 110 ∷ []
bits_text (Pattern bits) = hex16 bits

unfoldable pub float_text : Float → List ℕ
float_text x = bits_text (bits_of x)
