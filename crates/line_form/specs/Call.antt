-- The line of a call: a name, and then one field for each kind of the call, each after one space.
use Rattle.std.specs.Prelude.{ℕ, ◌+◌, ◌-◌, Bool, true, false, ◌&&◌, List, [], ◌∷◌, length, get_or, drop, Option, Some, None}
use Rattle.base.specs.Choice.{if◌then◌otherwise◌, ◌<?◌, ◌≤?◌, ◌=?◌}
use Rattle.text_read.specs.declared.Field.{Field}
use Rattle.text_read.specs.Fields.{field}
use Rattle.text_write.specs.Fields.{read_decimal, read_hex16}

-- a number that fits 32 bits
abbrev pub below32 : Option Field → Option Field
below32 None = None
below32 (Some f) = if f.value <? 0x1_0000_0000 then Some f otherwise None

-- an angle that may have a minus sign is kept as 64 bits with a sign; a number from 2^62 on counts as 2^62, which no angle reaches
abbrev pub cap : ℕ → ℕ
cap n = if n <? 0x4000_0000_0000_0000 then n otherwise 0x4000_0000_0000_0000

abbrev pub above_zero : Option Field → Option Field
above_zero None = None
above_zero (Some f) = field (cap f.value) f.next

abbrev pub below_zero : Option Field → Option Field
below_zero None = None
below_zero (Some f) = field (if f.value =? 0 then 0 otherwise 0x1_0000_0000_0000_0000 - cap f.value) f.next

-- a minus sign is 45
unfoldable pub read_signed : List ℕ → ℕ → Option Field
read_signed line at =
    if at <? length line
    then (if get_or line at 0 =? 45 then below_zero (read_decimal line (at + 1)) otherwise above_zero (read_decimal line at))
    otherwise None

unfoldable pub starts_with : List ℕ → List ℕ → Bool
starts_with line [] = true
starts_with [] (b ∷ name) = false
starts_with (a ∷ line) (b ∷ name) = (a =? b) && starts_with line name

-- a float as it is printed: `nan` (110, 97, 110), which means the bits of a NaN, or sixteen digits
unfoldable pub read_printed : List ℕ → ℕ → Option Field
read_printed line at =
    if (at ≤? length line) && starts_with (drop at line) (110 ∷ 97 ∷ 110 ∷ [])
    then field 0x7ff8_0000_0000_0000 (at + 3)
    otherwise read_hex16 line at

-- the number at a place, by its kind: F (70) is a float, as its bits; S (83) a decimal of 32 bits; N (78) one that may have a minus sign. P
-- (80) is a float as it is printed, and any other kind a decimal of 64 bits.
abbrev pub number_at : ℕ → List ℕ → ℕ → Option Field
number_at kind line at =
    if kind =? 70 then read_hex16 line at otherwise
    if kind =? 83 then below32 (read_decimal line at) otherwise
    if kind =? 78 then read_signed line at otherwise
    if kind =? 80 then read_printed line at otherwise read_decimal line at

-- the same after a space
unfoldable pub field_at : ℕ → List ℕ → ℕ → Option Field
field_at kind line at =
    if at <? length line then (if get_or line at 0 =? 32 then number_at kind line (at + 1) otherwise None) otherwise None

-- the numbers of a call
pub data Call : Type 0 where
  These : List ℕ → Call
  Unreadable : Call

abbrev pub ahead : ℕ → Call → Call
ahead n (These ns) = These (n ∷ ns)
ahead n Unreadable = Unreadable

abbrev pub and_then : Option Field → (ℕ → Call) → Call
and_then None rest = Unreadable
and_then (Some f) rest = ahead f.value (rest f.next)

-- the fields of these kinds, from a place to the end of the line
unfoldable pub fields_from : List ℕ → List ℕ → ℕ → Call
fields_from line [] at = if at =? length line then These [] otherwise Unreadable
fields_from line (kind ∷ kinds) at = and_then (field_at kind line at) (fields_from line kinds)

unfoldable pub call_of : List ℕ → List ℕ → List ℕ → Call
call_of line name kinds = if starts_with line name then fields_from line kinds (length name) otherwise Unreadable

-- the result of a reader: whether the line has these fields; it leaves their numbers in an array of the caller
abbrev pub or_unreadable : Bool → List ℕ → Call
or_unreadable true ns = These ns
or_unreadable false ns = Unreadable
