-- The meaning of an old order: the state with the acceleration that the rule gives. No other state leads to the same. Assumes nothing.
use mathlib.Core.Bool.{Bool, true, false}
use mathlib.Core.List.{List}
use mathlib.Core.Path.{◌≡◌, refl, ap}
use Prim.Native.Nat.{ℕ}
use Rattle.base.specs.declared.Refusal.{Refusal}
use Rattle.state.specs.declared.Vector.{Vector}
use Rattle.std.specs.Prelude.{Result, Ok, Err}
use Rattle.base.specs.Checks.{Checked, ◌before◌}
use Rattle.base.specs.Limits.{is_moment}
use Rattle.state.specs.State.{position, acceleration, bare, finite_state, setting_allowed, centre_allowed}
use Rattle.state.specs.declared.State.{State}
use Rattle.state.specs.declared.Injection.{Injection}
use Rattle.state.specs.declared.Setting.{Setting}
use Rattle.book.specs.Passes.{passes}
use Rattle.state_checks.proofs.Passed.{passes_all}
use Rattle.gravity.specs.Acceleration.{acceleration_at}
use Rattle.gravity_stored.specs.Injection.{rule_at, kept_by, kept, injection_checks, injection_answer, or_none, launched}

module _ (b : List ℕ) (setting : Setting) where
  -- position, velocity, moment and centre are the injection's
  by_rule : (i : Injection) (q : Result Vector Refusal) → bare (or_none i (kept_by i q)) ≡ i
  by_rule i (Ok a) = refl
  by_rule i (Err k) = refl

  pub launched_bare : (i : Injection) → bare (launched b setting i) ≡ i
  unfolding launched injection_answer kept
  launched_bare i = go (injection_checks b setting i)
    where
      go : (checks : Checked) → bare (or_none i (checks before kept_by i (rule_at b setting i))) ≡ i
      go (Ok tt) = by_rule i (rule_at b setting i)
      go (Err k) = refl

  -- launched again it is the same state
  pub launched_again : (i : Injection) → launched b setting (bare (launched b setting i)) ≡ launched b setting i
  launched_again i = ap (launched b setting) (launched_bare i)

  -- and so is any state whose stored acceleration is the rule's
  pub launched_itself : (s : State) → passes b ≡ true → setting_allowed setting ≡ true → centre_allowed setting s.centre ≡ true → is_moment s.moment ≡ true
      → finite_state s ≡ true → acceleration_at b setting s.centre s.moment (position s) ≡ Ok (acceleration s)
      → launched b setting (bare s) ≡ s
  unfolding launched injection_answer injection_checks kept
  launched_itself s book set centred begins finite is =
      rw (passes_all b setting _ _ _ (record { book = book; set = set; centre = centred; moment = begins; figures = finite }), is)
