-- Document 02, R-1: "the count of float steps from one to the other (the two zeros are one step apart; counting runs through them)".
use Rattle.std.specs.Prelude.{ℕ, ◌+◌, ◌-◌}
use Rattle.base.specs.Choice.{if◌then◌otherwise◌, ◌<?◌}

-- the place of a float among all of them, from the lowest up. If its sign is set, greater bits are lower; -0.0 is just below +0.0.
unfoldable pub place : ℕ → ℕ
place bits = if bits <? 0x8000_0000_0000_0000 then 0x8000_0000_0000_0000 + bits otherwise 0xffff_ffff_ffff_ffff - bits

abbrev pub distance : ℕ → ℕ → ℕ
distance p q = if p <? q then q - p otherwise p - q

-- the steps from the float of one bit pattern to that of another
unfoldable pub steps : ℕ → ℕ → ℕ
steps a b = distance (place a) (place b)
