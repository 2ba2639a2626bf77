-- How the walk goes through two books that are in order, and the contracts of its parts. The laws in proofs/Reaching.antt prove that it
-- computes `holds_answer`.
use Rattle.std.specs.Prelude.{ℕ, ◌+◌, ◌*◌, ◌<◌, ◌≤◌, Bool, true, false, List, ◌≡◌}
use Rattle.base_bytes.specs.Bytes.{u64_at}
use Rattle.book.specs.Contents.{entry_count, body_of, size_of, start_of, span_of}

-- the result of a test: true if P holds, false if not
abbrev pub Tells : Bool → Type 0 → Type 0
Tells true P = P
Tells false P = P → ⊥

-- entry j of c comes before entry i of b: by body, then by start
pub record Before (c : List ℕ) (j : ℕ) (b : List ℕ) (i : ℕ) : Type 0 where
  pub by_body : body_of c j ≤ body_of b i
  pub by_start : body_of c j ≡ body_of b i → start_of c j < start_of b i

abbrev pub AllBefore : List ℕ → ℕ → List ℕ → ℕ → Type 0
AllBefore c j b i = (k : ℕ) → k < j → Before c k b i

-- exactly the entries of c below j come before entry i of b
pub record Reached (c : List ℕ) (j : ℕ) (b : List ℕ) (i : ℕ) : Type 0 where
  pub within : j ≤ entry_count c
  pub all_before : AllBefore c j b i
  pub not_next : j < entry_count c → Before c j b i → ⊥

-- the fields of two entries, without the places of their blocks
pub record SameFields (b c : List ℕ) (i j : ℕ) : Type 0 where
  pub body : body_of c j ≡ body_of b i
  pub size : size_of c j ≡ size_of b i
  pub start : start_of c j ≡ start_of b i
  pub span : span_of c j ≡ span_of b i

-- n numbers of 8 bytes
abbrev pub SameBits : List ℕ → ℕ → List ℕ → ℕ → ℕ → Type 0
SameBits b at c place n = (k : ℕ) → k < n → u64_at c (place + 8 * k) ≡ u64_at b (at + 8 * k)
