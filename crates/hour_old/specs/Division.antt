-- A division of a dividend beyond 64 bits: the contract of a private function.
use Rattle.std.specs.Prelude.{◌≡◌, ℕ, ◌+◌, ◌*◌, ◌≤◌, ◌<◌}
use Rattle.hour_old.specs.declared.Estimate.{Estimate}

-- `quotient - over` times the divisor, plus the rest, is the dividend; the rest may contain the divisor up to twice
pub record EstimateOf (dividend divisor : ℕ) (estimate : Estimate) : Type 0 where
  pub exact : dividend + estimate.over * divisor ≡ estimate.quotient * divisor + estimate.rest
  pub rest_small : estimate.rest < 3 * divisor
  pub over_small : estimate.over ≤ 100_000
  pub quotient_small : estimate.quotient < 3_700_000_000_000
