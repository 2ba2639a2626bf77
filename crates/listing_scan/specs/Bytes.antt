-- How a line is read byte by byte: what each value of a scan says about the rest of its line.
use Rattle.std.specs.Prelude.{ℕ, suc, ◌+◌, ◌-◌, ◌*◌, Bool, true, false, ◌&&◌, List, [], ◌∷◌, ◌≡◌, length, drop, get_or}
use Rattle.base.specs.Choice.{if◌then◌otherwise◌, ◌<?◌, ◌=?◌}
use Rattle.base.specs.Limits.{is_moment}
use Rattle.listing_words.specs.Words.{strip_word, arrived_word, refused_word}
use Rattle.listing_scan.specs.declared.Row.{Row}
use Rattle.listing_scan.specs.declared.Line.{Line}
use Rattle.listing_scan.specs.declared.Line.TheVariants as line
use Rattle.listing_scan.specs.declared.Word.{Word}
use Rattle.listing_scan.specs.declared.Word.TheVariants.{Strip, Arrived, Refused, Steps}
use Rattle.listing_scan.specs.declared.Scan.{Scan}
use Rattle.listing_scan.specs.declared.Scan.TheVariants.{Start, Letters, Digits, Moment, Component, Behind, Bad}
use Rattle.listing_scan.specs.Reading.{is_decimal, hex_value, word, nothing, digits, number, appended, finite_bits, component, pushed, components, blank, moment_from, kind_of}

abbrev pub letters_of : Word → List ℕ
letters_of Strip = strip_word
letters_of Arrived = arrived_word
letters_of Refused = refused_word
letters_of Steps = []

-- the kind of a line that ends after the number that follows a word
abbrev pub ends_as : Word → Line
ends_as Strip = line.Header
ends_as Arrived = line.Outcome
ends_as Refused = line.Lone
ends_as Steps = line.Outcome

-- what may follow that number and a space
abbrev pub after_number : Word → List ℕ → Line
after_number Refused = number line.Outcome nothing
after_number Strip = nothing
after_number Arrived = nothing
after_number Steps = nothing

-- a component is complete: it must be finite
abbrev pub settled : ℕ → Row → ℕ → List ℕ → Line
settled more r bits behind = if finite_bits bits then components more (pushed r bits) behind otherwise line.Bad

-- the kind of the line, by the rest of it
unfoldable pub told : Scan → List ℕ → Line
told Start = kind_of
told (Letters w i) = word (drop i (letters_of w)) (number (ends_as w) (after_number w))
told (Digits w more) = digits more (ends_as w) (after_number w)
told (Moment t) = moment_from t
told (Component more left bits r) = component (suc left) bits (settled more r)
told (Behind more r) = components more r
told Bad = nothing

-- whether a byte of the line has been read
abbrev pub begun : Scan → Bool
begun Start = false
begun (Letters w i) = true
begun (Digits w more) = true
begun (Moment t) = true
begun (Component more left bits r) = true
begun (Behind more r) = true
begun Bad = true

-- the scan after the number that follows a word, and a space
abbrev pub Spaced : Word → Scan → Type 0
Spaced w r = ((rest : List ℕ) → after_number w rest ≡ told r rest) × (begun r ≡ true)

-- ---- the scan after one more byte of the line, by its values

abbrev pub on_first : ℕ → Scan
on_first b =
    if b =? 83 then Letters Strip 1 otherwise
    if b =? 65 then Letters Arrived 1 otherwise
    if b =? 82 then Letters Refused 1 otherwise
    if is_decimal b then Moment (b - 48) otherwise Bad

abbrev pub on_letter : Word → ℕ → ℕ → Scan
on_letter w i b =
    if i <? length (letters_of w)
    then (if b =? get_or (letters_of w) i 0 then Letters w (i + 1) otherwise Bad)
    otherwise (if is_decimal b then Digits w (48 <? b) otherwise Bad)

-- after the number of a refusal and a space: the steps; otherwise nothing
abbrev pub behind_number : Word → Scan
behind_number Refused = Letters Steps 0
behind_number Strip = Bad
behind_number Arrived = Bad
behind_number Steps = Bad

abbrev pub on_digit : Word → Bool → ℕ → Scan
on_digit w more b =
    if b =? 32 then behind_number w otherwise
    if more then (if is_decimal b then Digits w more otherwise Bad) otherwise Bad

abbrev pub on_behind : ℕ → Row → ℕ → Scan
on_behind more r b =
    if more =? 0 then Bad otherwise
    if b =? 32 then Component (more - 1) 15 0 r otherwise Bad

abbrev pub on_moment : ℕ → ℕ → Scan
on_moment t b =
    if is_decimal b && (0 <? t) && is_moment (10 * t + (b - 48))
    then Moment (10 * t + (b - 48))
    otherwise on_behind 6 (blank t) b

abbrev pub whole_component : ℕ → ℕ → Row → Scan
whole_component more bits r = if finite_bits bits then Behind more (pushed r bits) otherwise Bad

abbrev pub on_hex : ℕ → ℕ → ℕ → Row → ℕ → Scan
on_hex more left bits r b =
    if hex_value b <? 16
    then (if 0 <? left then Component more (left - 1) (appended bits (hex_value b)) r otherwise whole_component more (appended bits (hex_value b)) r)
    otherwise Bad

unfoldable pub on_byte : Scan → ℕ → Scan
on_byte Start b = on_first b
on_byte (Letters w i) b = on_letter w i b
on_byte (Digits w more) b = on_digit w more b
on_byte (Moment t) b = on_moment t b
on_byte (Component more left bits r) b = on_hex more left bits r b
on_byte (Behind more r) b = on_behind more r b
on_byte Bad b = Bad

-- its law (`takes`): the kind of the line by the rest after the byte, and that the line has begun
pub record Takes (s : Scan) (b : ℕ) (r : Scan) : Type 0 where
  pub same : (rest : List ℕ) → told s (b ∷ rest) ≡ told r rest
  pub on : begun r ≡ true
