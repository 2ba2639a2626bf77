-- The digits in the lines of a listing, and the numbers that they spell.
use Rattle.std.specs.Prelude.{ℕ, ◌+◌, ◌-◌, ◌*◌, ◌%◌, ◌<◌, Bool, ◌&&◌}
use Rattle.base.specs.Choice.{if◌then◌otherwise◌, ◌<?◌, ◌≤?◌}

abbrev pub between : ℕ → ℕ → ℕ → Bool
between low b high = (low ≤? b) && (b ≤? high)

-- a decimal digit
abbrev pub is_decimal : ℕ → Bool
is_decimal b = between 48 b 57

-- "16 lowercase hexadecimal digits": 0 to 9, a to f; 16 for any other byte
abbrev pub hex_value : ℕ → ℕ
hex_value b =
    if is_decimal b then b - 48 otherwise
    if between 97 b 102 then b - 87 otherwise 16

-- the 64 bits that hexadecimal digits spell, after one digit more
abbrev pub appended : ℕ → ℕ → ℕ
appended bits d = (16 * bits + d) % 0x1_0000_0000_0000_0000

-- the bits of a finite float: "a component not finite" is refused
abbrev pub finite_bits : ℕ → Bool
finite_bits bits = bits % 0x8000_0000_0000_0000 <? 0x7ff0_0000_0000_0000

-- the same as a statement: 64 bits, and without the sign bit below those of infinity
abbrev pub FiniteBits : ℕ → Type 0
FiniteBits bits = (bits < 0x1_0000_0000_0000_0000) × (bits % 0x8000_0000_0000_0000 < 0x7ff0_0000_0000_0000)
