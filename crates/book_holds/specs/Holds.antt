-- Document 02, R-12: "a second passing book holds every entry of the first with the same coefficients".
use Rattle.std.specs.Prelude.{ℕ, ◌+◌, ◌*◌, ◌<◌, List, ◌≡◌}
use Rattle.base_bytes.specs.Bytes.{u64_at}
use Rattle.book.specs.Contents.{entry_count, body_of, size_of, offset_of, start_of, span_of}

-- entry k of the book w is entry i of the book b: every field and the bits of every coefficient, but not the place of its block
pub record Copied (b w : List ℕ) (i k : ℕ) : Type 0 where
  pub body : body_of w k ≡ body_of b i
  pub size : size_of w k ≡ size_of b i
  pub start : start_of w k ≡ start_of b i
  pub span : span_of w k ≡ span_of b i
  pub bits : (j : ℕ) → j < 3 * size_of b i → u64_at w (offset_of w k + 8 * j) ≡ u64_at b (offset_of b i + 8 * j)

-- some entry of c, at any place, is entry i of b
abbrev pub HasCopy : List ℕ → List ℕ → ℕ → Type 0
HasCopy b c i = (j : ℕ) × (j < entry_count c) × Copied b c i j

-- "holds every entry of the first with the same coefficients": for each entry of b some entry of c, at any place, is the same. Body, count,
-- start, span and coefficient bits must be equal.
abbrev pub HoldsAll : List ℕ → List ℕ → Type 0
HoldsAll b c = (i : ℕ) → i < entry_count b → HasCopy b c i
