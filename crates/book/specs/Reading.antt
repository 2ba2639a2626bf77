-- What the code reads from an entry for a moment that it covers: the place of its coefficients, w and L.
use Rattle.std.specs.Prelude.{ℕ, ◌+◌, ◌*◌, ◌≤◌, true, List, ◌≡◌, length}
use Rattle.base.specs.Floats.{whole}
use Rattle.book_check.specs.Contents.{offset_of, size_of, start_of, span_of}
use Rattle.book_check.specs.Check.{floats_finite}
use Rattle.book_series.specs.Series.{argument}
use Rattle.book.specs.declared.inner.Reading.{Reading}

pub record Reads (b : List ℕ) (i t : ℕ) (r : Reading) : Type 0 where
  pub offset : r.offset ≡ offset_of b i
  pub size : r.n ≡ size_of b i
  pub by : r.w ≡ argument (start_of b i) (span_of b i) t
  pub long : r.span ≡ whole (span_of b i)
  pub inside : (1 ≤ r.n) × (r.n ≤ 16) × (r.offset + 24 * r.n ≤ length b)
  pub finites : floats_finite b r.offset (3 * r.n) ≡ true
