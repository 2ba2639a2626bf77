-- Document 02, R-13: the number that the bytes of a numeral spell, and how near it is to the float. "each the exact float rounded to
-- nearest, a tie to the even last digit; zero after rounding has no sign".
use Rattle.std.specs.Prelude.{ℕ, ◌<◌, Bool, true, ◌&&◌, List, [], ◌∷◌, ◌++◌, ◌≡◌, Float, length}
use Rattle.base.specs.Choice.{if◌then◌otherwise◌, ◌<?◌}
use Rattle.text_read.specs.Fields.{all_digits, value_after}
use Rattle.text_decimal.specs.Numeral.{count, unit_of, Rounded, is_negative}
use Rattle.text_decimal.specs.declared.Places.{Places}

-- a minus sign if it is negative, at least one digit, a point, and that many digits after it. Without sign and point the digits are the
-- number q: that many units of the last place.
pub record Spelled (negative : Bool) (places q : ℕ) (text : List ℕ) : Type 0 where
  pub front : List ℕ
  pub behind : List ℕ
  pub is : text ≡ (if negative then 45 ∷ [] otherwise []) ++ front ++ (46 ∷ []) ++ behind
  pub some : 0 < length front
  pub digits : all_digits 10 (front ++ behind) ≡ true
  pub long : length behind ≡ places
  pub units : value_after 10 0 (front ++ behind) ≡ q

-- the bytes printed for a float: the number that they spell is the rounded float
pub record PrintedFloat (places : Places) (x : Float) (text : List ℕ) : Type 0 where
  pub q : ℕ
  pub spelled : Spelled (is_negative x && (0 <? q)) (count places) q text
  pub near : Rounded (unit_of places) x q
