-- How the search works: what it learns from an entry, and what it knows of the rest. The laws in proofs/Found.antt prove that it finds what
-- `lookup` defines.
use Rattle.std.specs.Prelude.{ℕ, ◌≤◌, ◌<◌, false, List, ◌≡◌}
use Rattle.book_check.specs.Contents.{entry_count, body_of, start_of, end_of}
use Rattle.book_search.specs.Lookup.{serves}
use Rattle.book_search.specs.declared.search.Stand.{Stand}
use Rattle.book_search.specs.declared.search.Stand.TheVariants.{Past, Covered, Before}

abbrev pub Stands : List ℕ → ℕ → ℕ → ℕ → Stand → Type 0
Stands b i body t Past = (body_of b i ≤ body) × (body_of b i ≡ body → end_of b i ≤ t)
Stands b i body t Covered = (body_of b i ≡ body) × (start_of b i ≤ t) × (t < end_of b i)
Stands b i body t Before = (body ≤ body_of b i) × (body_of b i ≡ body → t < start_of b i)

-- only entries from low to high can serve; if there are any, `probe` is one of them
pub record Narrowed (b : List ℕ) (body t low high probe : ℕ) : Type 0 where
  pub none_below : (i : ℕ) → i < low → serves b body t i ≡ false
  pub none_from : (i : ℕ) → high ≤ i → i < entry_count b → serves b body t i ≡ false
  pub ordered : low ≤ high
  pub within : high ≤ entry_count b
  pub probed : low < high → (low ≤ probe) × (probe < high)
