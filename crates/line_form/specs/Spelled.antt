-- An answer is a line of words and numbers, with one space between them.
use Rattle.std.specs.Prelude.{ℕ, List, [], ◌∷◌, ◌++◌, map, Float}
use Rattle.text_write.specs.Numerals.{decimal_of, float_text}
use Rattle.text_write.specs.Written.{Wrote}
use Rattle.line_form.specs.Room.{Between}

pub data Item : Type 0 where
  word : List ℕ → Item
  whole : ℕ → Item
  real : Float → Item

abbrev pub item_text : Item → List ℕ
item_text (word w) = w
item_text (whole n) = decimal_of n
item_text (real x) = float_text x

-- each with a space (32) after it
unfoldable pub spaced : List Item → List ℕ
spaced [] = []
spaced (i ∷ is) = item_text i ++ (32 ∷ spaced is)

-- the line: a space after each but the last, and the line feed (10) after the last
unfoldable pub line_text : List Item → List ℕ
line_text [] = []
line_text (i ∷ []) = item_text i ++ (10 ∷ [])
line_text (i ∷ j ∷ is) = item_text i ++ (32 ∷ line_text (j ∷ is))

abbrev pub wholes : List ℕ → List Item
wholes = map whole

abbrev pub reals : List Float → List Item
reals = map real

-- "REFUSED" and the number
abbrev pub refused_items : ℕ → List Item
refused_items n = word (82 ∷ 69 ∷ 70 ∷ 85 ∷ 83 ∷ 69 ∷ 68 ∷ []) ∷ whole n ∷ []

-- a text is written at a place, the rest of the buffer stays, and the place after the text is between two bounds
pub record Puts (before : List ℕ) (from : ℕ) (text after : List ℕ) (least most end : ℕ) : Type 0 where
  pub wrote : Wrote before from text after end
  pub room : Between from least most end
