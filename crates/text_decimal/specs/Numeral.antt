-- Document 02, R-13: a float "in decimal with three and six places, each the exact float rounded to nearest, a tie to the even last digit;
-- zero after rounding has no sign". A float `fin s m e` is m·2^e, negative if s is true, and 2^e is `up e / down e`.
use Rattle.std.specs.Prelude.{ℕ, ◌+◌, ◌*◌, ◌/◌, ◌^◌, Bool, true, false, ◌&&◌, List, [], ◌∷◌, ◌++◌, Float}
use Rattle.std.specs.Float.{nan, inf, fin}
use Rattle.std.specs.Float.Ieee.{up, down}
use Rattle.base.specs.Choice.{if◌then◌otherwise◌, ◌<?◌, ◌≤?◌}
use Rattle.text_write.specs.Numerals.{digits, decimal_of}
use Rattle.text_decimal.specs.Nearest.{Nearest, nearest_to}
use Rattle.text_decimal.specs.declared.Places.{Places}
use Rattle.text_decimal.specs.declared.Places.TheVariants.{Three, Six}

-- "three and six places"
abbrev pub count : Places → ℕ
count Three = 3
count Six = 6

-- how many units of the last place are one
abbrev pub unit_of : Places → ℕ
unit_of places = 10 ^ count places

-- the size of a float in units of the last place, rounded to nearest; `unit` of them make 1
unfoldable pub units_in : ℕ → Float → ℕ
units_in unit nan = 0
units_in unit (inf s) = 0
units_in unit (fin s m e) = nearest_to (m * up e * unit) (down e)

-- q units are the size of a finite float, rounded to nearest; there is only one such q
abbrev pub Rounded : ℕ → Float → ℕ → Type 0
Rounded unit nan q = ⊥
Rounded unit (inf s) q = ⊥
Rounded unit (fin s m e) q = Nearest (m * up e * unit) (down e) q

abbrev pub is_negative : Float → Bool
is_negative nan = false
is_negative (inf s) = s
is_negative (fin s m e) = s

-- "zero after rounding has no sign"
unfoldable pub sign_of : Bool → ℕ → List ℕ
sign_of negative q = if negative && (0 <? q) then 45 ∷ [] otherwise []

-- the numeral of q units, with that many places after the point
unfoldable pub units_text : Bool → Places → ℕ → List ℕ
units_text negative places q = sign_of negative q ++ decimal_of (q / unit_of places) ++ (46 ∷ []) ++ digits 10 (count places) q

unfoldable pub numeral : Places → Float → List ℕ
numeral places x = units_text (is_negative x) places (units_in (unit_of places) x)

-- "a magnitude of 10^12 or more"
unfoldable pub is_large : Float → Bool
is_large nan = true
is_large (inf s) = true
is_large (fin s m e) = 1_000_000_000_000 * down e ≤? m * up e
