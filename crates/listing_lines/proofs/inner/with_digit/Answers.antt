-- `listing_lines::inner::with_digit` meets its contract. Assumes nothing.
use Prim.Native.Nat.{ℕ, ◌*◌, ◌+◌, ◌<◌}
use native.Mathlib.Omega.{arith}
use Rattle.base.specs.Limits.{end_of_time}
use Rattle.listing_lines.proofs.Laws.{more_least, more_room}
use Rattle.listing_lines.proofs.inner.with_digit.Goals as goal

-- below the end of time ten times a number, and it with a digit, are far below the limit of 64 bits
ten : (t d : ℕ) → 10 * t + d < end_of_time → 10 * t < 0x1_0000_0000_0000_0000
ten t d h = omega arith

with-digit : (t d : ℕ) → 10 * t + d < end_of_time → 10 * t + d < 0x1_0000_0000_0000_0000
with-digit t d h = omega arith

pub overflow_mul-result : goal.overflow_mul-result
overflow_mul-result c = record { fits = ten _ _ (more_room _ _ c.requires) }

pub overflow_sub-result : goal.overflow_sub-result
overflow_sub-result c = more_least _ _ c.requires

pub overflow_add-result : goal.overflow_add-result
overflow_add-result c = record { fits = with-digit _ _ (more_room _ _ c.requires) }
