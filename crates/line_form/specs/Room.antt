-- What a writer of answers promises about its places. Assumes nothing.
use Rattle.std.specs.Prelude.{ℕ, ◌+◌, ◌≤◌}

-- from least to most bytes lie between a place and the end
pub record Between (from least most end : ℕ) : Type 0 where
  pub some : from + least ≤ end
  pub fits : end ≤ from + most
