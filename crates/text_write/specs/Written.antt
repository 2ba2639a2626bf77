-- The result of writing a text at a place of a buffer.
use Rattle.std.specs.Prelude.{ℕ, ◌+◌, List, ◌++◌, ◌≡◌, length, take, drop}

-- the bytes before the place stay, then comes the text, r is the place after it, and the bytes from there on stay
pub record Wrote (before : List ℕ) (at : ℕ) (text after : List ℕ) (r : ℕ) : Type 0 where
  pub next : r ≡ at + length text
  pub bytes : take r after ≡ take at before ++ text
  pub rest : drop r after ≡ drop r before
