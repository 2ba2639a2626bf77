-- How the code reads a line byte by byte, from front to end: what kind of line it is, and its state if it has one. The law `kind_only_if` of
-- listing_laws says that this is the form of Line.
use Rattle.std.specs.Prelude.{ℕ, zero, suc, ◌+◌, ◌-◌, ◌*◌, Bool, ◌&&◌, List, [], ◌∷◌}
use Rattle.base.specs.Choice.{if◌then◌otherwise◌, ◌<?◌, ◌=?◌}
use Rattle.base.specs.Limits.{is_moment}
pub use Rattle.listing_lines.specs.Digits.{is_decimal, hex_value, appended, finite_bits}
use Rattle.listing_words.specs.Words.{strip_word, arrived_word, refused_word}
use Rattle.listing_scan.specs.declared.Row.{Row}
use Rattle.listing_scan.specs.declared.Line.{Line}
use Rattle.listing_scan.specs.declared.Line.TheVariants.{Header, State, Outcome, Lone, Bad}

-- the line continues with a word; `after` judges what follows the word
unfoldable pub word : List ℕ → (List ℕ → Line) → List ℕ → Line
word [] after rest = after rest
word (w ∷ ws) after [] = Bad
word (w ∷ ws) after (b ∷ rest) = if b =? w then word ws after rest otherwise Bad

-- nothing more may follow in the line
abbrev pub nothing : List ℕ → Line
nothing rest = Bad

-- a number of which a digit is read. If `more` is true, digits may follow. Then the line ends and its kind is `ends`, or a space comes.
unfoldable pub digits : Bool → Line → (List ℕ → Line) → List ℕ → Line
digits more ends after [] = ends
digits more ends after (b ∷ rest) =
    if b =? 32 then after rest otherwise
    if more && is_decimal b then digits more ends after rest otherwise Bad

-- a decimal number of any length, without a leading zero: 0 itself is one digit
unfoldable pub number : Line → (List ℕ → Line) → List ℕ → Line
number ends after [] = Bad
number ends after (b ∷ rest) = if is_decimal b then digits (48 <? b) ends after rest otherwise Bad

-- "a header with h": STRIP and a number
unfoldable pub header_line : List ℕ → Line
header_line = word strip_word (number Header nothing)

-- "the outcome with steps done": ARRIVED and a number
unfoldable pub arrived_line : List ℕ → Line
arrived_line = word arrived_word (number Outcome nothing)

-- "only REFUSED and the number", or "REFUSED 6 14 (number, steps)"
unfoldable pub refused_line : List ℕ → Line
refused_line = word refused_word (number Lone (number Outcome nothing))

-- the digits of a component that are still to come, after those that spell `bits`; `after` judges what follows it
unfoldable pub component : ℕ → ℕ → (ℕ → List ℕ → Line) → List ℕ → Line
component zero bits after rest = after bits rest
component (suc left) bits after [] = Bad
component (suc left) bits after (b ∷ rest) =
    if hex_value b <? 16 then component left (appended bits (hex_value b)) after rest otherwise Bad

-- one more component: the six are pushed in from the right, so that after all six the first is x
abbrev pub pushed : Row → ℕ → Row
pushed r bits =
    record { moment = r.moment; x = r.y; y = r.z; z = r.vx; vx = r.vy; vy = r.vz; vz = bits }

-- that many components, each after a space, then the end of the line
unfoldable pub components : ℕ → Row → List ℕ → Line
components zero r [] = State r
components zero r (b ∷ rest) = Bad
components (suc more) r rest =
    word (32 ∷ []) (component 16 0 (λ bits behind. if finite_bits bits then components more (pushed r bits) behind otherwise Bad)) rest

-- a moment, and no component yet
abbrev pub blank : ℕ → Row
blank t = record { moment = t; x = 0; y = 0; z = 0; vx = 0; vy = 0; vz = 0 }

-- a moment of which the digits read so far spell t: no digit follows a leading zero, and the moment must stay in range
unfoldable pub moment_from : ℕ → List ℕ → Line
moment_from t [] = Bad
moment_from t (b ∷ rest) =
    if is_decimal b && (0 <? t) && is_moment (10 * t + (b - 48)) then moment_from (10 * t + (b - 48)) rest
    otherwise components 6 (blank t) (b ∷ rest)

-- "each state": its moment and six components
unfoldable pub state_line : List ℕ → Line
state_line [] = Bad
state_line (b ∷ rest) = if is_decimal b then moment_from (b - 48) rest otherwise Bad

-- the kind of a line: its first byte shows which kind it can be
unfoldable pub kind_of : List ℕ → Line
kind_of [] = Bad
kind_of (b ∷ rest) =
    if b =? 83 then header_line (b ∷ rest) otherwise
    if b =? 65 then arrived_line (b ∷ rest) otherwise
    if b =? 82 then refused_line (b ∷ rest) otherwise state_line (b ∷ rest)
