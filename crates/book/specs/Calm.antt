-- Document 02, R-5, in a walk. If all coefficients of a book are below 2^512 in size, no velocity can overflow. A walk then need not
-- compute velocities to test them. The law `slow` (proofs/Slow.antt) proves this.
use Rattle.std.specs.Prelude.{ℕ, ◌*◌, Bool, true, List, ◌≡◌}
use Rattle.book_check.specs.Contents.{entry_count, offset_of, size_of}
use Rattle.book_check.specs.Passes.{all_below, passes}
use Rattle.book_check.specs.Check.{floats_below}

-- the bits of 2^512
abbrev pub calm_limit : ℕ
calm_limit = 0x5ff0_0000_0000_0000

unfoldable pub calm : List ℕ → Bool
calm b = all_below (entry_count b) (λ i. floats_below calm_limit b (offset_of b i) (3 * size_of b i))

-- what a walk knows of its book: it passes, and it is calm if `told` is true
pub record Ready (b : List ℕ) (told : Bool) : Type 0 where
  pub pass : passes b ≡ true
  pub calmly : told ≡ true → calm b ≡ true
