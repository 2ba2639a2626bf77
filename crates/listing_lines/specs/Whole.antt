-- The line of a state that lies whole in a block with its line feed, read at once. The law `whole_line` of listing_read says that the
-- result is the same as reading byte by byte.
use Rattle.std.specs.Prelude.{ℕ, zero, suc, ◌+◌, ◌-◌, ◌*◌, ◌<◌, Bool, ◌&&◌, List, [], ◌∷◌, ◌≡◌, length, get_or, drop, Option, Some, None}
use Rattle.base.specs.Choice.{if◌then◌otherwise◌, ◌<?◌, ◌=?◌}
use Rattle.base.specs.Limits.{is_moment}
use Rattle.listing_lines.specs.Digits.{is_decimal, hex_value, appended, finite_bits}
use Rattle.listing_lines.specs.declared.Numbered.{Numbered}
use Rattle.listing_lines.specs.declared.WholeLine.{WholeLine}

-- the value of each byte as a digit
pub record Values (values : List ℕ) : Type 0 where
  pub are : (b : ℕ) → b < 256 → get_or values b 0 ≡ hex_value b

-- that many digits from a place on, after digits that spell `bits`
unfoldable pub spelled_from : List ℕ → ℕ → ℕ → ℕ → Option ℕ
spelled_from block zero at bits = Some bits
spelled_from block (suc left) at bits =
    if hex_value (get_or block at 0) <? 16 then spelled_from block left (at + 1) (appended bits (hex_value (get_or block at 0))) otherwise None

abbrev pub finite_only : Option ℕ → Option ℕ
finite_only None = None
finite_only (Some bits) = if finite_bits bits then Some bits otherwise None

-- a space and a component after it
unfoldable pub component_at : List ℕ → ℕ → Option ℕ
component_at block at = if get_or block at 0 =? 32 then finite_only (spelled_from block 16 (at + 1) 0) otherwise None

-- whether a byte is one more digit of a moment: no digit follows a leading zero, and the moment must stay in range
unfoldable pub goes_on : ℕ → ℕ → Bool
goes_on t b = is_decimal b && (0 <? t) && is_moment (10 * t + (b - 48))

-- the digits of a moment, after some that spell t, and the place after them
unfoldable pub moment_on : List ℕ → ℕ → ℕ → Numbered
moment_on [] t at = record { t = t; end = at }
moment_on (b ∷ rest) t at =
    if goes_on t b then moment_on rest (10 * t + (b - 48)) (at + 1) otherwise record { t = t; end = at }

-- with the bits of a component, if it is one
abbrev pub with_bits : Option ℕ → (ℕ → Option WholeLine) → Option WholeLine
with_bits None rest = None
with_bits (Some bits) rest = rest bits

-- six components from a place on
unfoldable pub six_at : List ℕ → ℕ → ℕ → Option WholeLine
six_at block at t =
    with_bits (component_at block at) (λ x.
    with_bits (component_at block (at + 17)) (λ y.
    with_bits (component_at block (at + 34)) (λ z.
    with_bits (component_at block (at + 51)) (λ vx.
    with_bits (component_at block (at + 68)) (λ vy.
    with_bits (component_at block (at + 85)) (λ vz.
    Some (record { moment = t; x = x; y = y; z = z; vx = vx; vy = vy; vz = vz; end = at + 102 })))))))

-- after a moment: six components and a line feed
unfoldable pub after_moment : List ℕ → Numbered → Option WholeLine
after_moment block m =
    if m.end + 102 <? length block
    then (if get_or block (m.end + 102) 0 =? 10 then six_at block m.end m.t otherwise None)
    otherwise None

-- the line that begins at a place, by its first byte
abbrev pub from_byte : List ℕ → ℕ → ℕ → Option WholeLine
from_byte block at b = if is_decimal b then after_moment block (moment_on (drop (at + 1) block) (b - 48) (at + 1)) otherwise None

unfoldable pub state_line_at : List ℕ → ℕ → Option WholeLine
state_line_at block at = if at <? length block then from_byte block at (get_or block at 0) otherwise None
