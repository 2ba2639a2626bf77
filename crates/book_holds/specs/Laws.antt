-- The meaning of the three answers.
use Rattle.std.specs.Prelude.{ℕ, ◌<◌, true, List, ◌≡◌}
use Rattle.book.specs.Contents.{entry_count}
use Rattle.book.specs.Passes.{passes}
use Rattle.book_holds.specs.Holds.{HasCopy, HoldsAll}

pub record BothPass (b c : List ℕ) : Type 0 where
  pub first : passes b ≡ true
  pub second : passes c ≡ true

-- "a second passing book holds every entry of the first with the same coefficients"
pub record Fuller (b c : List ℕ) : Type 0 where
  pub pass : BothPass b c
  pub all_held : HoldsAll b c

-- entry i of the first book is missing in the second, and no entry before it is
pub record MissingFirst (b c : List ℕ) (i : ℕ) : Type 0 where
  pub pass : BothPass b c
  pub inside : i < entry_count b
  pub not_held_lem : HasCopy b c i → ⊥
  pub held_before : (k : ℕ) → k < i → HasCopy b c k
