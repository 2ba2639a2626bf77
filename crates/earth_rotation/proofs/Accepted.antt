-- What follows for the moment, DUT and the hour angle if the hour angle is not refused. Assumes nothing.
use mathlib.Core.Bool.{Bool, true, false, not}
use mathlib.Core.Path.{◌≡◌, refl, sym}
use Prim.Native.Nat.{ℕ, ◌≤◌, ◌<◌}
use native.Mathlib.Omega.{arith}
use borrow.Author.Tests.{ltb-true, ltb-false}
use Rattle.base.specs.declared.Refusal.{Refusal}
use Rattle.std.specs.Prelude.{Ok, Err}
use Rattle.base.specs.Choice.{if◌then◌otherwise◌, ◌<?◌}
use Rattle.base.specs.Limits.{end_of_time, is_moment, is_dut, circle}
use Rattle.hour.specs.Hour.{ut_day, ut_time, is_rule, sidereal_angle, sidereal_answer}
use Rattle.hour.proofs.BothRules.{angle_below}

pub record Accepted (rule moment dut parts : ℕ) : Type 0 where
  pub not_before : dut ≤ moment
  pub in_time : moment < end_of_time
  pub angle : parts ≡ sidereal_angle rule (ut_day moment dut) (ut_time moment dut)
  pub in_circle : parts < circle

by_tests :
    (rule moment dut parts : ℕ) (allowed known in_time before : Bool)
    → in_time ≡ is_moment moment
    → before ≡ (moment <? dut)
    → (if not allowed then Err Refusal.Setting otherwise
    if not known then Err Refusal.Setting otherwise
    if not in_time then Err Refusal.Moment otherwise
    if before then Err Refusal.Moment otherwise
    Ok (sidereal_angle rule (ut_day moment dut) (ut_time moment dut)))
    ≡ Ok parts
    → Accepted rule moment dut parts
by_tests rule moment dut parts true true true false m b e =
    let angle : sidereal_angle rule (ut_day moment dut) (ut_time moment dut) ≡ parts = cc in
    record {
      not_before = ltb-false moment dut (sym b);
      in_time = ltb-true moment end_of_time (sym m);
      angle = sym angle;
      in_circle = rw angle at (angle_below rule (ut_day moment dut) (ut_time moment dut));
    }
by_tests rule moment dut parts true true true true m b e = let z : ◌≡◌ {A = ℕ} 0 1 = cc in absurd (omega arith)
by_tests rule moment dut parts true true false before m b e = let z : ◌≡◌ {A = ℕ} 0 1 = cc in absurd (omega arith)
by_tests rule moment dut parts true false in_time before m b e = let z : ◌≡◌ {A = ℕ} 0 1 = cc in absurd (omega arith)
by_tests rule moment dut parts false known in_time before m b e = let z : ◌≡◌ {A = ℕ} 0 1 = cc in absurd (omega arith)

pub accepted : (rule moment dut parts : ℕ) → sidereal_answer rule moment dut ≡ Ok parts → Accepted rule moment dut parts
accepted rule moment dut parts e = by_tests rule moment dut parts (is_dut dut) (is_rule rule) (is_moment moment) (moment <? dut) refl refl e
