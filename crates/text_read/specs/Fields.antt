-- How numbers are read: a field of digits, from a place up to a space or the end.
use Rattle.std.specs.Prelude.{ℕ, ◌+◌, ◌-◌, ◌*◌, Bool, true, ◌&&◌, List, [], ◌∷◌, length, drop, Option, Some, None}
use Rattle.base.specs.Choice.{if◌then◌otherwise◌, ◌<?◌, ◌≤?◌, ◌=?◌}
use Rattle.text_read.specs.declared.Field.{Field}

-- the bytes up to a space
unfoldable pub until_space : List ℕ → List ℕ
until_space [] = []
until_space (b ∷ bs) = if b =? 32 then [] otherwise b ∷ until_space bs

abbrev pub between : ℕ → ℕ → ℕ → Bool
between low b high = (low ≤? b) && (b ≤? high)

-- 0 to 9, a to f, A to F; 16 for any other byte
abbrev pub digit_value : ℕ → ℕ
digit_value b =
    if between 48 b 57 then b - 48 otherwise
    if between 97 b 102 then b - 87 otherwise
    if between 65 b 70 then b - 55 otherwise 16

abbrev pub is_digit : ℕ → ℕ → Bool
is_digit base b = digit_value b <? base

unfoldable pub all_digits : ℕ → List ℕ → Bool
all_digits base [] = true
all_digits base (b ∷ bs) = is_digit base b && all_digits base bs

-- the number that digits spell in a base, after digits that spell n
unfoldable pub value_after : ℕ → ℕ → List ℕ → ℕ
value_after base n [] = n
value_after base n (b ∷ bs) = value_after base (base * n + digit_value b) bs

-- a value that was read, and the place after it
abbrev pub field : ℕ → ℕ → Option Field
field value next = Some (record { value = value; next = next })

-- a field with its count of digits, from least to most, its value and the place after it
abbrev pub sized : ℕ → ℕ → ℕ → ℕ → ℕ → Option Field
sized least most count n next = if (least ≤? count) && (count ≤? most) then field n next otherwise None

-- a field f that starts at a place: digits only, of a value that fits 64 bits
abbrev pub numeral : ℕ → ℕ → ℕ → List ℕ → ℕ → Option Field
numeral base least most f at =
    if all_digits base f && (value_after base 0 f <? 0x1_0000_0000_0000_0000) then sized least most (length f) (value_after base 0 f) (at + length f) otherwise None

unfoldable pub read_number : ℕ → ℕ → ℕ → List ℕ → ℕ → Option Field
read_number base least most s at = numeral base least most (until_space (drop at s)) at

-- one to 20 decimal digits
abbrev pub read_decimal : List ℕ → ℕ → Option Field
read_decimal s at = read_number 10 1 20 s at

-- exactly 16 hexadecimal digits, of either case
abbrev pub read_hex16 : List ℕ → ℕ → Option Field
read_hex16 s at = read_number 16 16 16 s at
