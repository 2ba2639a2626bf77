-- Document 01, "The ephemeris book": the header, and the fields of entry i of the contents, i counted from 0.
use Rattle.std.specs.Prelude.{ℕ, ◌+◌, ◌*◌, List, Float}
use Rattle.base_bytes.specs.Bytes.{u16_at, u32_at, u64_at, float_at}

-- "First total length (u32) and entry count (u32)"
abbrev pub stated_total : List ℕ → ℕ
stated_total b = u32_at b 0

abbrev pub entry_count : List ℕ → ℕ
entry_count b = u32_at b 4

-- "Then the contents, 24 bytes an entry": where entry i begins; at the entry count, where the contents end
abbrev pub entry_at : ℕ → ℕ
entry_at i = 8 + 24 * i

-- "body (u16), count n (u16), offset of its block from the book's first byte (u32), start s (u64), span L (u64)"
abbrev pub body_of : List ℕ → ℕ → ℕ
body_of b i = u16_at b (entry_at i)

abbrev pub size_of : List ℕ → ℕ → ℕ
size_of b i = u16_at b (entry_at i + 2)

abbrev pub offset_of : List ℕ → ℕ → ℕ
offset_of b i = u32_at b (entry_at i + 4)

abbrev pub start_of : List ℕ → ℕ → ℕ
start_of b i = u64_at b (entry_at i + 8)

abbrev pub span_of : List ℕ → ℕ → ℕ
span_of b i = u64_at b (entry_at i + 16)

-- s + L, a whole number: it does not wrap
abbrev pub end_of : List ℕ → ℕ → ℕ
end_of b i = start_of b i + span_of b i

-- "Then the coefficient blocks: n floats for X, then Y, then Z": float k of the block, k from 0 to 3n - 1
abbrev pub float_of : List ℕ → ℕ → ℕ → Float
float_of b offset k = float_at b (offset + 8 * k)

abbrev pub coefficient : List ℕ → ℕ → ℕ → Float
coefficient b i k = float_of b (offset_of b i) k

abbrev pub block_length : List ℕ → ℕ → ℕ
block_length b i = 24 * size_of b i
