-- The form of a listing's lines (document 01, "strip"), each without its line feed:
--   a header is STRIP and a number;
--   a state is its moment and six components of 16 hexadecimal digits, each after one space;
--   an outcome is ARRIVED and a number, or REFUSED and two numbers;
--   a lone refusal is REFUSED and a number.
-- The numbers are decimal, without a leading zero. The words end in a space (listing_words). `HasKind` below says which kind a line has. The
-- law `kind_only_if` of listing_laws says that the code reads this form and no other.
use Rattle.std.specs.Prelude.{ℕ, ◌<◌, List, [], ◌∷◌, ◌++◌, ◌⊎◌, ◌≡◌}
use Rattle.base.specs.Limits.{end_of_time}
use Rattle.text_write.specs.Numerals.{decimal_of, hex16}
use Rattle.listing_words.specs.Words.{space, strip_word, arrived_word, refused_word}
pub use Rattle.listing_lines.specs.Digits.{FiniteBits}
use Rattle.listing_scan.specs.declared.Row.{Row}
use Rattle.listing_scan.specs.declared.Line.{Line}
use Rattle.listing_scan.specs.declared.Line.TheVariants.{Header, State, Outcome, Lone, Bad}

-- ---- the texts

-- "a header with h": STRIP and a number
abbrev pub header_text : ℕ → List ℕ
header_text h = strip_word ++ decimal_of h

-- "the outcome with steps done": ARRIVED and a number
abbrev pub arrived_text : ℕ → List ℕ
arrived_text steps = arrived_word ++ decimal_of steps

-- "A step refused prints REFUSED 6 14 (number, steps) in the last line": REFUSED and two numbers
abbrev pub refused_text : ℕ → ℕ → List ℕ
refused_text k steps = refused_word ++ decimal_of k ++ space ++ decimal_of steps

-- "if the order or book is refused, only REFUSED and the number"
abbrev pub lone_text : ℕ → List ℕ
lone_text k = refused_word ++ decimal_of k

-- "Floats are their bits as 16 lowercase hexadecimal digits": each follows a space
abbrev pub behind_spaces : List ℕ → List ℕ
behind_spaces [] = []
behind_spaces (bits ∷ more) = space ++ (hex16 bits ++ behind_spaces more)

-- the bits of a state's six components
abbrev pub six_of : Row → List ℕ
six_of r = r.x ∷ r.y ∷ r.z ∷ r.vx ∷ r.vy ∷ r.vz ∷ []

-- "each state": its moment and its components
unfoldable pub row_text : Row → List ℕ
row_text r = decimal_of r.moment ++ behind_spaces (six_of r)

-- ---- the lines with these texts

pub record IsHeader (l : List ℕ) : Type 0 where
  pub h : ℕ
  pub text : l ≡ header_text h

pub record IsArrived (l : List ℕ) : Type 0 where
  pub steps : ℕ
  pub text : l ≡ arrived_text steps

pub record IsRefused (l : List ℕ) : Type 0 where
  pub refusal : ℕ
  pub steps : ℕ
  pub text : l ≡ refused_text refusal steps

pub record IsLone (l : List ℕ) : Type 0 where
  pub refusal : ℕ
  pub text : l ≡ lone_text refusal

-- finite floats, each by its bits
abbrev pub AllFinite : List ℕ → Type 0
AllFinite [] = Unit {0}
AllFinite (bits ∷ more) = FiniteBits bits × AllFinite more

-- a line is the text of a state. Document 02, R-1, refuses a state "with a component not finite" or with a moment out of range.
pub record LineOf (l : List ℕ) (r : Row) : Type 0 where
  pub text : l ≡ row_text r
  pub moment : r.moment < end_of_time
  pub components : AllFinite (six_of r)

-- a line after the states is ARRIVED and a number, or REFUSED and two numbers
abbrev pub IsOutcome : List ℕ → Type 0
IsOutcome l = IsArrived l ⊎ IsRefused l

-- a line "not of document 01's form": it has none of the kinds
pub record NoKind (l : List ℕ) : Type 0 where
  pub no_header : IsHeader l → ⊥
  pub no_state : (r : Row) → LineOf l r → ⊥
  pub no_outcome : IsOutcome l → ⊥
  pub no_lone : IsLone l → ⊥

-- ---- which kind a line has

abbrev pub HasKind : List ℕ → Line → Type 0
HasKind l Header = IsHeader l
HasKind l (State r) = LineOf l r
HasKind l Outcome = IsOutcome l
HasKind l Lone = IsLone l
HasKind l Bad = NoKind l
