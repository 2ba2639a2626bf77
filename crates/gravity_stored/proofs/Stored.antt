-- When the stored acceleration is the rule's: that of an injection is, and no other value passes. Assumes nothing.
use mathlib.Core.Bool.{Bool, true, false, not, ◌&&◌}
use mathlib.Core.List.{List}
use mathlib.Core.Path.{◌≡◌, refl, sym, ap, ◌∙◌}
use Prim.Native.Nat.{ℕ, zero, suc}
use native.Mathlib.Omega.{arith}
use borrow.Author.Tests.{eq-eqb}
use lib.Ieee.{Float, binary64, to_bits}
use lib.Ieee.Scale.{finite}
use Rattle.base.specs.declared.Refusal.{Refusal}
use Rattle.std.specs.Prelude.{Result, Ok, Err}
use Rattle.base.specs.Choice.{if◌then◌otherwise◌, ◌=?◌}
use Rattle.state.specs.State.{position, acceleration, carrying, bare, same_bits, same_vector, finite_vector}
use Rattle.state.specs.declared.Vector.{Vector}
use Rattle.state.specs.declared.State.{State}
use Rattle.state.specs.declared.Injection.{Injection}
use Rattle.state.specs.declared.Setting.{Setting}
use Rattle.gravity.specs.Acceleration.{acceleration_at}
use Rattle.gravity.proofs.Finite.{rule_finite}
use Rattle.base.specs.Checks.{Checked, ◌before◌}
use Rattle.base.proofs.Checks.{holds}
use Rattle.base.proofs.Bools.{left, right}
use Rattle.gravity_stored.specs.Injection.{rule_at, kept_by, kept, injection_checks, injection_answer, stored_is_rule_by, stored_is_rule, stored_check_by, stored_check}

-- ---- bits

same_bits_lem : (x : Float) → finite x ≡ true → same_bits x x ≡ true
same_bits_lem x f = rw (f, eq-eqb (to_bits binary64 x) (to_bits binary64 x) refl)

pub same_vector_lem : (v : Vector) → finite_vector v ≡ true → same_vector v v ≡ true
unfolding same_vector
same_vector_lem v f =
    let xy = left (finite v.x && finite v.y) (finite v.z) f in
    rw (same_bits_lem v.x (left (finite v.x) (finite v.y) xy), same_bits_lem v.y (right (finite v.x) (finite v.y) xy))
    (rw (same_bits_lem v.z (right (finite v.x && finite v.y) (finite v.z) f)))

-- ---- the stored acceleration is the rule's

module _ (b : List ℕ) (setting : Setting) where
  -- a state with the rule's acceleration
  pub carries_rule : (s : State) → acceleration_at b setting s.centre s.moment (position s) ≡ Ok (acceleration s) → stored_is_rule b setting s ≡ true
  unfolding stored_is_rule
  carries_rule s e = ap (stored_is_rule_by s) e ∙ same_vector_lem (acceleration s) (rule_finite b setting s.centre s.moment (position s) (acceleration s) e)

  -- a run's check passes it
  pub stored_passes : (s : State) → stored_is_rule b setting s ≡ true → stored_check b setting s ≡ Ok tt
  unfolding stored_is_rule stored_check
  stored_passes s = go (rule_at b setting (bare s))
    where
      go : (q : Result Vector Refusal) → stored_is_rule_by s q ≡ true → stored_check_by s q ≡ Ok tt
      go (Ok a) e = rw e
      go (Err k) e = let z : ◌≡◌ {A = Bool} true false = sym e in cc

  -- and no other value passes
  pub only_stored : (s : State) → stored_check b setting s ≡ Ok tt → stored_is_rule b setting s ≡ true
  unfolding stored_is_rule stored_check
  only_stored s = go (rule_at b setting (bare s))
    where
      go : (q : Result Vector Refusal) → stored_check_by s q ≡ Ok tt → stored_is_rule_by s q ≡ true
      go (Ok a) e = holds (same_vector a (acceleration s)) Refusal.Stored e
      go (Err k) e = cc

  -- the rule makes such a state
  kept_by_lem : (i : Injection) (q : Result Vector Refusal) (s : State) → rule_at b setting i ≡ q → kept_by i q ≡ Ok s → stored_is_rule b setting s ≡ true
  kept_by_lem i (Ok a) s is e =
      let same : s ≡ carrying i a = cc in
      ap (stored_is_rule b setting) same ∙ carries_rule (carrying i a) is
  kept_by_lem i (Err k) s is e = let z : ◌≡◌ {A = ℕ} 0 1 = cc in absurd (omega arith)

  pub kept_is_rule : (i : Injection) (s : State) → kept b setting i ≡ Ok s → stored_is_rule b setting s ≡ true
  unfolding kept
  kept_is_rule i s e = kept_by_lem i (rule_at b setting i) s refl e

  -- "Injection .. must keep it equal to the rule at that state"
  pub injection_is_rule : (i : Injection) (s : State) → injection_answer b setting i ≡ Ok s → stored_is_rule b setting s ≡ true
  unfolding injection_answer
  injection_is_rule i s = go (injection_checks b setting i)
    where
      go : (checks : Checked) → (checks before kept b setting i) ≡ Ok s → stored_is_rule b setting s ≡ true
      go (Ok tt) e = kept_is_rule i s e
      go (Err k) e = cc
