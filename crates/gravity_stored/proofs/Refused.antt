-- The refusal numbers of an injection. Assumes nothing.
use mathlib.Core.Bool.{Bool, true}
use mathlib.Core.List.{List}
use mathlib.Core.Path.{◌≡◌, refl}
use Prim.Native.Nat.{ℕ}
use Rattle.base.specs.declared.Refusal.{Refusal}
use Rattle.state.specs.declared.Vector.{Vector}
use Rattle.std.specs.Prelude.{Result, Ok, Err}
use Rattle.base.specs.Checks.{refused_by}
use Rattle.base.specs.Limits.{is_moment}
use Rattle.state.specs.State.{starting_position, finite_injection, centre_allowed}
use Rattle.state.specs.declared.State.{State}
use Rattle.state.specs.declared.Injection.{Injection}
use Rattle.state.specs.declared.Setting.{Setting}
use Rattle.state_checks.proofs.Numbers.{common_meets}
use Rattle.gravity.proofs.Refused as gravity
use Rattle.gravity_stored.specs.Injection.{rule_at, kept_by, kept, injection_checks, injection_answer}

module _ (ok : Refusal → Bool) (six : ok Refusal.Cover ≡ true) (seven : ok Refusal.NotFinite ≡ true) where
  by_refused : (i : Injection) (q : Result Vector Refusal) → refused_by ok q ≡ true → refused_by ok (kept_by i q) ≡ true
  by_refused i (Ok a) e = refl
  by_refused i (Err k) e = e

  -- the rule refuses only with 6 or 7
  pub kept_refused : (b : List ℕ) (setting : Setting) (i : Injection) → refused_by ok (kept b setting i) ≡ true
  unfolding kept
  kept_refused b setting i = by_refused i (rule_at b setting i) (gravity.rule_refused ok six seven b setting i.centre i.moment (starting_position i))

  -- the call only with 1, 4, 14, 3, 7 and 6
  pub injection_refused : ok Refusal.Book ≡ true → ok Refusal.Setting ≡ true → ok Refusal.Centre ≡ true → ok Refusal.Moment ≡ true → (b : List ℕ) (setting : Setting) (i : Injection)
      → refused_by ok (injection_answer b setting i) ≡ true
  unfolding injection_answer injection_checks
  injection_refused one four fourteen three b setting i =
      common_meets (refused_by ok) Err (kept b setting i) one four fourteen three seven (kept_refused b setting i) b setting
      (centre_allowed setting i.centre) (is_moment i.moment) (finite_injection i)
