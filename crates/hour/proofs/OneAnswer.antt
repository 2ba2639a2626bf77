-- Any two results that the promise of `sidereal` allows are equal, and so of `hour_angle`; an accepted one is below one circle. Assumes nothing.
use mathlib.Core.Bool.{Bool, true, false, not}
use mathlib.Core.Path.{◌≡◌, refl}
use Prim.Native.Nat.{ℕ, ◌<◌}
use native.Mathlib.Omega.{arith}
use Rattle.base.specs.declared.Refusal.{Refusal}
use Rattle.std.specs.Prelude.{Ok, Err}
use Rattle.base.specs.Choice.{if◌then◌otherwise◌, ◌<?◌}
use Rattle.base.specs.Limits.{is_moment, is_dut, circle}
use Rattle.base.proofs.OneAnswer.{OneAnswer, one_answer}
use Rattle.hour.specs.Hour.{ut_day, ut_time, is_rule, sidereal_angle, hour_answer, sidereal_answer}
use Rattle.hour.proofs.BothRules.{angle_below}
use Rattle.hour.specs.contracts.hour_angle as hour_angle
use Rattle.hour.specs.contracts.sidereal as sidereal

pub sidereal_answers_once : OneAnswer sidereal.ended (λ M 𝓤 𝓛. sidereal.clauses 𝓛)
sidereal_answers_once = one_answer (λ κs inputs. sidereal_answer inputs.0 inputs.1.0 inputs.1.1.0) (λ M 𝓤 𝓛 mem run κs inputs g r after. refl)

pub hour_angle_answers_once : OneAnswer hour_angle.ended (λ M 𝓤 𝓛. hour_angle.clauses 𝓛)
hour_angle_answers_once = one_answer (λ κs inputs. hour_answer inputs.0 inputs.1.0) (λ M 𝓤 𝓛 mem run κs inputs g r after. refl)

answer_cases : (a b c d : Bool) (x p : ℕ) → x < circle
    → (if not a then Err Refusal.Setting otherwise if not b then Err Refusal.Setting otherwise if not c then Err Refusal.Moment otherwise if d then Err Refusal.Moment otherwise Ok x) ≡ Ok p → p < circle
answer_cases true true true false x p h e = let q : x ≡ p = cc in omega arith
answer_cases true true true true x p h e = let z : ◌≡◌ {A = ℕ} 0 1 = cc in absurd (omega arith)
answer_cases true true false d x p h e = let z : ◌≡◌ {A = ℕ} 0 1 = cc in absurd (omega arith)
answer_cases true false c d x p h e = let z : ◌≡◌ {A = ℕ} 0 1 = cc in absurd (omega arith)
answer_cases false b c d x p h e = let z : ◌≡◌ {A = ℕ} 0 1 = cc in absurd (omega arith)

-- "never below 0, always below 360 degrees"
pub answer_below : (rule moment dut parts : ℕ) → sidereal_answer rule moment dut ≡ Ok parts → parts < circle
answer_below rule moment dut parts e =
    answer_cases (is_dut dut) (is_rule rule) (is_moment moment) (moment <? dut) (sidereal_angle rule (ut_day moment dut) (ut_time moment dut)) parts
    (angle_below rule (ut_day moment dut) (ut_time moment dut)) e
