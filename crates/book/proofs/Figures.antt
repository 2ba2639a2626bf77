-- Document 01, "Figures to check against": cover at an entry's end. The figures marked P are rows of `cases`. Assumes nothing.
use Prim.Native.Nat.{ℕ, ◌-◌, ◌≤◌}
use mathlib.Core.Bool.{true, false, and-false}
use mathlib.Core.List.{List}
use mathlib.Core.Path.{◌≡◌}
use native.Mathlib.Omega.{arith}
use borrow.Author.Tests.{le-leb, lt-ltb, le-ltb}
use Rattle.book_check.specs.Contents.{start_of, span_of, end_of}
use Rattle.book_search.specs.Lookup.{covers}
use Rattle.base.proofs.Bools.{both}

-- "Cover: at s + L - 1 yes, at s + L no"
module _ (b : List ℕ) (i : ℕ) where
  pub covers_last : 1 ≤ span_of b i → covers b i (end_of b i - 1) ≡ true
  covers_last l = both (le-leb (start_of b i) (end_of b i - 1) (omega arith)) (lt-ltb (end_of b i - 1) (end_of b i) (omega arith))

  pub not_at_end : covers b i (end_of b i) ≡ false
  not_at_end = simp (le-ltb (end_of b i) (end_of b i) (omega arith), and-false)
