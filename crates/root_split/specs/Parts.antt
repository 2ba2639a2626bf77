-- How a float above zero is taken apart for its root.
use Rattle.std.specs.Prelude.{◌≡◌, false, ℕ, ◌+◌, ◌-◌, ◌*◌, ◌^◌, ◌≤◌, ◌<◌, T, Float}
use Rattle.std.specs.Float.{binary64}
use Rattle.std.specs.Float.Ieee.{low}
use Rattle.std.specs.Float.Ieee.Exact.{HasValue}
use Rattle.std.specs.Float.Ieee.Positive.{positive}

-- m·4^half is digits·2^exponent, and √(m·2^52) has 53 digits
pub record Split (digits exponent m half : ℕ) : Type 0 where
  pub least : 2 ^ 52 ≤ m
  pub most : m + 2 ≤ 2 ^ 54
  pub top : half ≤ 1533
  pub same : m * 4 ^ half ≡ digits * 2 ^ exponent

-- digits that have at most s places free below 53, and an exponent from which s can be subtracted
pub record Room (s digits exponent : ℕ) : Type 0 where
  pub least : 2 ^ (53 - s) ≤ digits
  pub most : digits < 2 ^ 53
  pub left : s ≤ exponent

-- the same number written with digits that have at most s places free
pub record Raised (s digits exponent higher lower : ℕ) : Type 0 where
  pub room : Room s higher lower
  pub less : lower ≤ exponent
  pub same : higher * 2 ^ lower ≡ digits * 2 ^ exponent

-- x is n·4^half / 4^1074 for n = m·2^52, so its root is √n·2^half in units of the smallest float. If x is not finite and above zero, only
-- the bounds hold.
pub record Opened (x : Float) (m half : ℕ) : Type 0 where
  pub least : 2 ^ 52 ≤ m
  pub most : m + 2 ≤ 2 ^ 54
  pub top : half ≤ 1533
  pub value : T (positive x) → HasValue x false (m * 2 ^ 52 * 4 ^ half) (4 ^ low binary64)
