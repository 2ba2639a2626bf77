-- Document 01, "The ephemeris book": "Little-endian". A book is the list of its bytes, and `at` counts from its first byte.
use Rattle.std.specs.Prelude.{ℕ, ◌+◌, ◌*◌, List, get_or, Float}
use Rattle.std.specs.Float.{binary64}
use Rattle.std.specs.Float.Ieee.{of_bits}

unfoldable pub u16_at : List ℕ → ℕ → ℕ
u16_at b at = get_or b at 0 + 256 * get_or b (at + 1) 0

unfoldable pub u32_at : List ℕ → ℕ → ℕ
u32_at b at = u16_at b at + 65_536 * u16_at b (at + 2)

unfoldable pub u64_at : List ℕ → ℕ → ℕ
u64_at b at = u32_at b at + 4_294_967_296 * u32_at b (at + 4)

abbrev pub float_at : List ℕ → ℕ → Float
float_at b at = of_bits binary64 (u64_at b at)
