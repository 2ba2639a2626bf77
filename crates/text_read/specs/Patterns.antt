-- The 64 bits of a float.
use Rattle.std.specs.Prelude.{Float}
use Rattle.std.specs.Float.{nan, inf, fin, binary64}
use Rattle.std.specs.Float.Ieee.{to_bits}
use Rattle.text_read.specs.declared.Bits.{Bits}
use Rattle.text_read.specs.declared.Bits.TheVariants.{Pattern, NaN}

-- the bits of a float; a NaN has none of its own
abbrev pub bits_of : Float → Bits
bits_of nan = NaN
bits_of (inf s) = Pattern (to_bits binary64 (inf s))
bits_of (fin s m e) = Pattern (to_bits binary64 (fin s m e))
