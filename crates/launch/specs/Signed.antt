-- An angle with a sign, as 64 bits.
use Rattle.std.specs.Prelude.{ℕ, ◌-◌, true, false}
use Rattle.base.specs.Choice.{if◌then◌otherwise◌, ◌<?◌}
use Rattle.launch.specs.declared.Signed.{Signed}

-- a signed number as in C
abbrev pub signed_of : ℕ → Signed
signed_of bits =
    if bits <? 0x8000_0000_0000_0000
    then record { below = false; parts = bits }
    otherwise record { below = true; parts = 0x1_0000_0000_0000_0000 - bits }
