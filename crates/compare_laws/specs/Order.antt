-- Document 02, R-1: "the count of float steps from one to the other (the two zeros are one step apart; counting runs through them)". Float
-- steps follow the order of floats.
use Rattle.std.specs.Prelude.{ℕ, ◌+◌, ◌<◌, true, ◌⊎◌, ◌≡◌, Float}
use Rattle.std.specs.Float.{binary64}
use Rattle.std.specs.Float.Ieee.{of_bits, lt}
use Rattle.listing_scan.specs.Line.{FiniteBits}
use Rattle.compare_steps.specs.Steps.{place, steps}

abbrev pub float_of : ℕ → Float
float_of b = of_bits binary64 b

-- -0.0 and +0.0: neither is below the other
abbrev pub Zeros : ℕ → ℕ → Type 0
Zeros a b = (a ≡ 0x8000_0000_0000_0000) × (b ≡ 0)

-- a < b as floats if and only if the place of a is below that of b, except for the two zeros
pub record FollowsOrder (a b : ℕ) : Type 0 where
  pub rises : lt (float_of a) (float_of b) ≡ true → place a < place b
  pub back : place a < place b → (lt (float_of a) (float_of b) ≡ true) ⊎ Zeros a b

-- next to each other: one step apart, and no float lies between
pub record Neighbours (a b : ℕ) : Type 0 where
  pub one_step : steps a b ≡ 1
  pub none_between : (c : ℕ) → FiniteBits c → lt (float_of a) (float_of c) ≡ true → lt (float_of c) (float_of b) ≡ true → ⊥

-- every finite float except the greatest has a next one above it
pub record Next (a : ℕ) : Type 0 where
  pub bits : ℕ
  pub finite : FiniteBits bits
  pub above : place bits ≡ place a + 1
