-- Document 02, R-1, "Say where two strips part": the report on two listings, as one definition over their texts.
use Rattle.std.specs.Prelude.{ℕ, Bool, true, false, ◌||◌, List, [], ◌∷◌, ◌++◌, ◌≡◌, length}
use Rattle.base.specs.Choice.{if◌then◌otherwise◌, ◌<?◌, ◌=?◌}
use Rattle.text_write.specs.Numerals.{decimal_of}
use Rattle.listing_words.specs.Words.{space, line_feed, same_word, only_word, diff_word, header_word, outcome_word, refused13, bar, dash, x_name, y_name, z_name, vx_name, vy_name, vz_name}
use Rattle.listing_scan.specs.declared.Row.{Row}
use Rattle.listing_read.specs.Form.{lines_of, form_refusal, rows_in}
use Rattle.compare_report.specs.declared.Component.{Component}
use Rattle.compare_report.specs.declared.Component.TheVariants.{X, Y, Z, VX, VY, VZ}
use Rattle.compare_report.specs.declared.Part.{Part}
use Rattle.compare_report.specs.declared.Part.TheVariants.{Header, States, Outcome, End, Over}
use Rattle.compare_steps.specs.Steps.{steps}

-- one difference: a moment found in one listing only, or a component whose bits differ, with its float steps
pub data Difference : Type 0 where
  only : (listing moment : ℕ) → Difference
  differs : (moment : ℕ) → Component → (count : ℕ) → Difference

-- "every component whose bits differ"
abbrev pub component : ℕ → Component → ℕ → ℕ → List Difference
component t k a b = if a =? b then [] otherwise differs t k (steps a b) ∷ []

-- "for each moment in both": x, y, z, vx, vy, vz in this order
unfoldable pub at_one : Row → Row → List Difference
at_one r s =
    component r.moment X r.x s.x
    ++ component r.moment Y r.y s.y
    ++ component r.moment Z r.z s.z
    ++ component r.moment VX r.vx s.vx
    ++ component r.moment VY r.vy s.vy
    ++ component r.moment VZ r.vz s.vz

-- "in moment order, each moment found in one only, and for each moment in both ..": the states of both listings side by side
unfoldable pub parted : List Row → List Row → List Difference
parted [] [] = []
parted (r ∷ rs) [] = only 1 r.moment ∷ parted rs []
parted [] (s ∷ ss) = only 2 s.moment ∷ parted [] ss
parted (r ∷ rs) (s ∷ ss) =
    if r.moment <? s.moment then only 1 r.moment ∷ parted rs (s ∷ ss) otherwise
    if s.moment <? r.moment then only 2 s.moment ∷ parted (r ∷ rs) ss otherwise
    at_one r s ++ parted rs ss

-- ---- the lines

-- a word and a number; a word and two numbers as a line
abbrev pub numbered : List ℕ → ℕ → List ℕ
numbered word n = word ++ decimal_of n

unfoldable pub two_numbers : List ℕ → ℕ → ℕ → List ℕ
two_numbers word m n = numbered word m ++ numbered space n ++ line_feed

-- a component's name with the spaces around it
abbrev pub name : Component → List ℕ
name X = space ++ x_name ++ space
name Y = space ++ y_name ++ space
name Z = space ++ z_name ++ space
name VX = space ++ vx_name ++ space
name VY = space ++ vy_name ++ space
name VZ = space ++ vz_name ++ space

-- ONLY LISTING MOMENT, and DIFF MOMENT COMPONENT STEPS
unfoldable pub diff_line : ℕ → Component → ℕ → List ℕ
diff_line t k n = numbered diff_word t ++ numbered (name k) n ++ line_feed

abbrev pub line_of : Difference → List ℕ
line_of (only k t) = two_numbers only_word k t
line_of (differs t k n) = diff_line t k n

unfoldable pub text_of : List Difference → List ℕ
text_of [] = []
text_of (d ∷ ds) = line_of d ++ text_of ds

-- "Header and outcome lines (a lone REFUSED line is an outcome) are compared whole": the first line and the last. A listing without states
-- is a lone refusal. It has no header, and - is printed for it.
abbrev pub first_of : List (List ℕ) → List ℕ
first_of [] = []
first_of (l ∷ ls) = l

unfoldable pub last_of : List (List ℕ) → List ℕ
last_of [] = []
last_of (l ∷ []) = l
last_of (l ∷ m ∷ ls) = last_of (m ∷ ls)

unfoldable pub header_of : ℕ → List ℕ → List ℕ
header_of states text = if states =? 0 then dash otherwise first_of (lines_of text)

unfoldable pub outcome_of : List ℕ → List ℕ
outcome_of text = last_of (lines_of text)

-- the first line of a text
unfoldable pub until_feed : List ℕ → List ℕ
until_feed [] = []
until_feed (b ∷ bs) = if b =? 10 then [] otherwise b ∷ until_feed bs

unfoldable pub same : List ℕ → List ℕ → Bool
same [] [] = true
same (a ∷ rest) [] = false
same [] (b ∷ more) = false
same (a ∷ rest) (b ∷ more) = if a =? b then same rest more otherwise false

-- WORD FIRST-LINE | SECOND-LINE, if the lines differ
unfoldable pub lines_text : List ℕ → List ℕ → List ℕ → List ℕ
lines_text word a b = if same a b then [] otherwise word ++ a ++ bar ++ b ++ line_feed

unfoldable pub header_text : List ℕ → List ℕ → List ℕ
header_text a b = lines_text header_word (header_of (length (rows_in a)) a) (header_of (length (rows_in b)) b)

unfoldable pub states_text : List ℕ → List ℕ → List ℕ
states_text a b = text_of (parted (rows_in a) (rows_in b))

unfoldable pub outcome_text : List ℕ → List ℕ → List ℕ
outcome_text a b = lines_text outcome_word (outcome_of a) (outcome_of b)

-- "Equal listings give one line, SAME and the number of states"
unfoldable pub same_line : ℕ → List ℕ
same_line n = numbered same_word n ++ line_feed

-- the end of the report: a line of its own if nothing was reported
abbrev pub end_text : Bool → ℕ → List ℕ
end_text true n = []
end_text false n = same_line n

abbrev pub some : List ℕ → Bool
some [] = false
some (b ∷ bs) = true

-- "reported first and last": the header, the states, the outcome; then the end
unfoldable pub any_difference : List ℕ → List ℕ → Bool
any_difference a b = some (header_text a b) || some (states_text a b) || some (outcome_text a b)

abbrev pub part_text : Part → List ℕ → List ℕ → List ℕ
part_text Header a b = header_text a b
part_text States a b = states_text a b
part_text Outcome a b = outcome_text a b
part_text End a b = end_text (any_difference a b) (length (rows_in a))
part_text Over a b = []

-- "13 with its line number, first listing first": REFUSED 13 LISTING LINE; nothing if both are of the form
unfoldable pub first_refusal : ℕ → ℕ → ℕ → ℕ → List ℕ
first_refusal k line l other =
    if 0 <? line then two_numbers refused13 k line otherwise
    if 0 <? other then two_numbers refused13 l other otherwise []

abbrev pub refusal_text : ℕ → ℕ → List ℕ
refusal_text first second = first_refusal 1 first 2 second

-- the report on two listings from a part on
abbrev pub from_end : List ℕ → List ℕ → List ℕ
from_end a b = part_text End a b

abbrev pub from_outcome : List ℕ → List ℕ → List ℕ
from_outcome a b = part_text Outcome a b ++ from_end a b

abbrev pub from_states : List ℕ → List ℕ → List ℕ
from_states a b = part_text States a b ++ from_outcome a b

abbrev pub from_part : Part → List ℕ → List ℕ → List ℕ
from_part Header a b = part_text Header a b ++ from_states a b
from_part States a b = from_states a b
from_part Outcome a b = from_outcome a b
from_part End a b = from_end a b
from_part Over a b = []

-- the next part, in the order of the report
abbrev pub part_after : Part → Part
part_after Header = States
part_after States = Outcome
part_after Outcome = End
part_after End = Over
part_after Over = Over

-- its law (`follows`): part q comes after part p
abbrev pub Follows : Part → Part → Type 0
Follows p q = (a b : List ℕ) → from_part p a b ≡ part_text p a b ++ from_part q a b

-- the report on two texts
unfoldable pub report : List ℕ → List ℕ → List ℕ
report a b =
    let refused = refusal_text (form_refusal a) (form_refusal b) in
    if some refused then refused otherwise from_part Header a b
