-- What follows from a move: the checks that it passed, and its new state. Assumes nothing.
use mathlib.Core.Bool.{Bool, true, false, ◌&&◌, true≢false}
use mathlib.Core.List.{List}
use mathlib.Core.Path.{◌≡◌, refl, sym}
use Prim.Native.Nat.{ℕ}
use native.Mathlib.Omega.{arith}
use Rattle.base.specs.declared.Refusal.{Refusal}
use Rattle.book.specs.declared.Motion.{Motion}
use Rattle.std.specs.Prelude.{Result, Ok, Err, Option, Some, None}
use Rattle.base.specs.Choice.{if◌then◌otherwise◌, ◌=?◌}
use Rattle.base.specs.Checks.{Checked, ◌before◌, refused_by}
use Rattle.base.proofs.Bools.{right}
use Rattle.base.specs.Limits.{is_moment}
use Rattle.base.proofs.Cases.{by_if}
use Rattle.state.specs.State.{finite_injection, finite_state, centre_allowed}
use Rattle.state.specs.declared.State.{State}
use Rattle.state.specs.declared.Injection.{Injection}
use Rattle.state.specs.declared.Setting.{Setting}
use Rattle.book.specs.Passes.{passes}
use Rattle.state_checks.proofs.Passed.{passed}
use Rattle.state_checks.proofs.Numbers.{common_meets}
use Rattle.gravity_stored.specs.Injection.{kept, stored_is_rule}
use Rattle.gravity_stored.proofs.Refused as refused
use Rattle.gravity_stored.proofs.Stored.{kept_is_rule}
use Rattle.centre.specs.Move.{motion_of, shifted, kept_or7, move_by, move_of, move_checks, move_answer}

pub may_move : (b : List ℕ) (setting : Setting) (s : State) (centre : ℕ) → move_checks b setting s centre ≡ Ok tt
    → (passes b ≡ true) × (centre_allowed setting centre ≡ true)
unfolding move_checks
may_move b setting s centre e =
    let p = passed b setting _ _ _ e in
    (p.book, right (centre_allowed setting s.centre) (centre_allowed setting centre) p.centre)

-- a move is refused only with 1, 4, 14, 3, 7 and 6
module _ (ok : Refusal → Bool) (one : ok Refusal.Book ≡ true) (four : ok Refusal.Setting ≡ true) (fourteen : ok Refusal.Centre ≡ true) (three : ok Refusal.Moment ≡ true) (seven : ok Refusal.NotFinite ≡ true) (six : ok Refusal.Cover ≡ true) where
  by_refused : (b : List ℕ) (setting : Setting) (s : State) (centre : ℕ) (from to : Option Motion) → refused_by ok (move_by b setting s centre from to) ≡ true
  by_refused b setting s centre (Some old) (Some new) =
      by_if (refused_by ok) (finite_injection (shifted s centre old new))
      (refused.kept_refused ok six seven b setting (shifted s centre old new)) seven
  by_refused b setting s centre (Some old) None = six
  by_refused b setting s centre None to = six

  of_refused : (b : List ℕ) (setting : Setting) (s : State) (centre : ℕ) → refused_by ok (move_of b setting s centre) ≡ true
  unfolding move_of
  of_refused b setting s centre =
      by_if (refused_by ok) (s.centre =? centre) refl (by_refused b setting s centre (motion_of b s.centre s.moment) (motion_of b centre s.moment))

  pub move_refused : (b : List ℕ) (setting : Setting) (s : State) (centre : ℕ) → refused_by ok (move_answer b setting s centre) ≡ true
  unfolding move_answer move_checks
  move_refused b setting s centre =
      common_meets (refused_by ok) Err (move_of b setting s centre) one four fourteen three seven (of_refused b setting s centre) b setting
      (centre_allowed setting s.centre && centre_allowed setting centre) (is_moment s.moment) (finite_state s)

-- ---- order

-- "Injection, step and change of centre must keep it equal to the rule at that state"
module _ (b : List ℕ) (setting : Setting) (s : State) (centre : ℕ) (next : State) where
  by_end : (i : Injection) → kept_or7 b setting i ≡ Ok next → stored_is_rule b setting next ≡ true
  by_end i = go (finite_injection i)
    where
      go : (fin : Bool) → (if fin then kept b setting i otherwise Err Refusal.NotFinite) ≡ Ok next → stored_is_rule b setting next ≡ true
      go true e = kept_is_rule b setting i next e
      go false e = let z : ◌≡◌ {A = ℕ} 0 1 = cc in absurd (omega arith)

  by_seen : (from to : Option Motion) → move_by b setting s centre from to ≡ Ok next → stored_is_rule b setting next ≡ true
  by_seen (Some old) (Some new) e = by_end (shifted s centre old new) e
  by_seen (Some old) None e = let z : ◌≡◌ {A = ℕ} 0 1 = cc in absurd (omega arith)
  by_seen None to e = let z : ◌≡◌ {A = ℕ} 0 1 = cc in absurd (omega arith)

  -- a move to another centre leads to a state that is in order; a move to the same centre changes nothing
  of_rule : move_of b setting s centre ≡ Ok next → ((s.centre =? centre) ≡ false → stored_is_rule b setting next ≡ true) × ((s.centre =? centre) ≡ true → next ≡ s)
  unfolding move_of
  of_rule = go (s.centre =? centre)
    where
      go : (same : Bool)
          → (if same then Ok s otherwise move_by b setting s centre (motion_of b s.centre s.moment) (motion_of b centre s.moment)) ≡ Ok next
          → (same ≡ false → stored_is_rule b setting next ≡ true) × (same ≡ true → next ≡ s)
      go true e = (λ z. absurd (true≢false z), λ z. cc)
      go false e = (λ z. by_seen (motion_of b s.centre s.moment) (motion_of b centre s.moment) e, λ z. absurd (true≢false (sym z)))

  pub move_is_rule : move_answer b setting s centre ≡ Ok next
      → ((s.centre =? centre) ≡ false → stored_is_rule b setting next ≡ true) × ((s.centre =? centre) ≡ true → next ≡ s)
  unfolding move_answer
  move_is_rule = go (move_checks b setting s centre)
    where
      go : (checks : Checked) → (checks before move_of b setting s centre) ≡ Ok next
          → ((s.centre =? centre) ≡ false → stored_is_rule b setting next ≡ true) × ((s.centre =? centre) ≡ true → next ≡ s)
      go (Ok tt) e = of_rule e
      go (Err k) e = absurd (omega (arith, (let z : ◌≡◌ {A = ℕ} 0 1 = cc in z)))
