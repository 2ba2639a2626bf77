-- What follows if the start checks refuse nothing. Assumes nothing.
use mathlib.Core.Bool.{true}
use mathlib.Core.List.{List}
use mathlib.Core.Path.{◌≡◌}
use Prim.Native.Nat.{ℕ}
use Rattle.std.specs.Prelude.{Ok}
use Rattle.base.specs.Limits.{is_moment}
use Rattle.base.proofs.Bools.{both, left, right}
use Rattle.base.proofs.Checks.{first, first_of, holds}
use Rattle.base.specs.declared.Refusal.{Refusal}
use Rattle.state.specs.State.{finite_state, setting_allowed, centre_allowed}
use Rattle.state.specs.declared.State.{State}
use Rattle.state.specs.declared.Setting.{Setting}
use Rattle.book.specs.Passes.{passes}
use Rattle.state_checks.proofs.Passed as common
use Rattle.gravity_stored.specs.Injection.{stored_check}
use Rattle.run_target.specs.Target.{target_checks}
use Rattle.run_checks.specs.Start.{step_allowed, within_steps, inputs_checks, start_checks}

-- everything that passed
pub record Passed (b : List ℕ) (setting : Setting) (s : State) (h target : ℕ) : Type 0 where
  pub book : passes b ≡ true
  pub set : setting_allowed setting ≡ true
  pub centred : centre_allowed setting s.centre ≡ true
  pub begins : is_moment s.moment ≡ true
  pub ends : is_moment target ≡ true
  pub finite : finite_state s ≡ true
  pub ordered : stored_check b setting s ≡ Ok tt
  pub length : step_allowed h ≡ true
  pub reachable : within_steps s.moment h target ≡ true

-- what may be relied on if the inputs are not refused
pub opened : (b : List ℕ) (setting : Setting) (s : State) (target : ℕ) → inputs_checks b setting s target ≡ Ok tt
    → (passes b ≡ true) × (centre_allowed setting s.centre ≡ true)
unfolding inputs_checks
opened b setting s target e = let p = common.passed b setting _ _ _ e in (p.book, p.centre)

pub passed : (b : List ℕ) (setting : Setting) (s : State) (h target : ℕ) → start_checks b setting s h target ≡ Ok tt → Passed b setting s h target
unfolding start_checks inputs_checks target_checks
passed b setting s h target e =
    let inputs = first_of (inputs_checks b setting s target) _ tt e in
    let p = common.passed b setting _ _ _ inputs.0 in
    let stored = first_of (stored_check b setting s) _ tt inputs.1 in
    let length = first (step_allowed h) Refusal.Step _ tt stored.1 in
    let reach = holds (within_steps s.moment h target) Refusal.Target length.1 in
    record {
      book = p.book;
      set = p.set;
      centred = p.centre;
      begins = left (is_moment s.moment) (is_moment target) p.moment;
      ends = right (is_moment s.moment) (is_moment target) p.moment;
      finite = p.figures;
      ordered = stored.0;
      length = length.0;
      reachable = reach;
    }

-- and the converse
pub passes_all : (b : List ℕ) (setting : Setting) (s : State) (h target : ℕ) → Passed b setting s h target → start_checks b setting s h target ≡ Ok tt
unfolding start_checks inputs_checks target_checks
passes_all b setting s h target p =
    let none =
    common.passes_all b setting _ _ _
    (record { book = p.book; set = p.set; centre = p.centred; moment = both p.begins p.ends; figures = p.finite })
    in
    rw (none, p.ordered, p.length, p.reachable)
