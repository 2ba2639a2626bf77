-- Document 02, R-10: the book that is written from the kept entries, in the form of document 01, "The ephemeris book".
use Rattle.std.specs.Prelude.{ℕ, ◌+◌, ◌/◌, ◌%◌, List, [], ◌∷◌, ◌++◌, length, take, drop}
use Rattle.book.specs.Contents.{entry_at, offset_of, block_length}

-- n bytes of the input from a place on
abbrev pub part : List ℕ → ℕ → ℕ → List ℕ
part b at n = take n (drop at b)

-- "Little-endian": a u32
unfoldable pub le32 : ℕ → List ℕ
le32 n = n % 256 ∷ n / 256 % 256 ∷ n / 256 / 256 % 256 ∷ n / 256 / 256 / 256 % 256 ∷ []

abbrev pub blocks_length : List ℕ → List ℕ → ℕ
blocks_length b [] = 0
blocks_length b (i ∷ is) = block_length b i + blocks_length b is

-- header, contents and blocks of the entries `kept`
abbrev pub book_length : List ℕ → List ℕ → ℕ
book_length b kept = entry_at (length kept) + blocks_length b kept

-- entry i with its block at another place: only the offset is new, the other bytes stay
abbrev pub entry_anew : List ℕ → ℕ → ℕ → List ℕ
entry_anew b i place = part b (entry_at i) 4 ++ le32 place ++ part b (entry_at i + 8) 16

-- "blocks follow the contents in entry order with no gap": the first one at `place`
abbrev pub contents_anew : List ℕ → ℕ → List ℕ → List ℕ
contents_anew b place [] = []
contents_anew b place (i ∷ is) = entry_anew b i place ++ contents_anew b (place + block_length b i) is

-- "no coefficient is altered": the bytes of the blocks stay
abbrev pub block_bytes : List ℕ → ℕ → List ℕ
block_bytes b i = part b (offset_of b i) (block_length b i)

abbrev pub blocks_anew : List ℕ → List ℕ → List ℕ
blocks_anew b [] = []
blocks_anew b (i ∷ is) = block_bytes b i ++ blocks_anew b is

-- "First total length (u32) and entry count (u32). Then the contents .. Then the coefficient blocks"
unfoldable pub book_anew : List ℕ → List ℕ → List ℕ
book_anew b kept =
    le32 (book_length b kept) ++ le32 (length kept) ++ contents_anew b (entry_at (length kept)) kept ++ blocks_anew b kept

-- the place of the block of the kept entry with the new number k in that book
abbrev pub place_anew : List ℕ → List ℕ → ℕ → ℕ
place_anew b kept k = entry_at (length kept) + blocks_length b (take k kept)

-- a text written at a place; "bytes behind the written book keep their contents"
abbrev pub with_text : List ℕ → ℕ → List ℕ → List ℕ
with_text out at text = take at out ++ text ++ drop (at + length text) out
