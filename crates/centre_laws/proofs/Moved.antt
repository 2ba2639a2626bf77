-- Document 02, R-6: an accepted move keeps the moment and has the new centre. Assumes nothing.
use mathlib.Core.Bool.{Bool, true, false}
use mathlib.Core.List.{List}
use mathlib.Core.Path.{◌≡◌, refl, ap, ◌∙◌}
use Prim.Native.Nat.{ℕ}
use native.Mathlib.Omega.{arith}
use borrow.Author.Tests.{eqb-true}
use Rattle.base.specs.declared.Refusal.{Refusal}
use Rattle.book.specs.declared.Motion.{Motion}
use Rattle.state.specs.declared.Vector.{Vector}
use Rattle.std.specs.Prelude.{Result, Ok, Err, Option, Some, None}
use Rattle.base.specs.Choice.{if◌then◌otherwise◌, ◌=?◌}
use Rattle.base.proofs.Bools.{left, right}
use Rattle.base.proofs.Checks.{first_of}
use Rattle.state.specs.State.{carrying, finite_injection, centre_allowed}
use Rattle.state.specs.declared.State.{State}
use Rattle.state.specs.declared.Injection.{Injection}
use Rattle.state.specs.declared.Setting.{Setting}
use Rattle.book.specs.Passes.{passes}
use Rattle.state_checks.proofs.Passed.{passed}
use Rattle.gravity_stored.specs.Injection.{rule_at, kept_by, kept}
use Rattle.centre.specs.Move.{motion_of, shifted, kept_or7, move_by, move_of, move_checks, move_answer}

-- a move that is accepted has passed its checks
accepted : (b : List ℕ) (setting : Setting) (s : State) (centre : ℕ) (next : State) → move_answer b setting s centre ≡ Ok next
    → (move_checks b setting s centre ≡ Ok tt) × (move_of b setting s centre ≡ Ok next)
unfolding move_answer
accepted b setting s centre next e = first_of (move_checks b setting s centre) (move_of b setting s centre) next e

-- among them those of the book and of both centres
pub record Allowed (b : List ℕ) (setting : Setting) (s : State) (centre : ℕ) : Type 0 where
  pub book : passes b ≡ true
  pub old : centre_allowed setting s.centre ≡ true
  pub new : centre_allowed setting centre ≡ true

checked : (b : List ℕ) (setting : Setting) (s : State) (centre : ℕ) → move_checks b setting s centre ≡ Ok tt → Allowed b setting s centre
unfolding move_checks
checked b setting s centre e =
    let p = passed b setting _ _ _ e in
    record {
      book = p.book;
      old = left (centre_allowed setting s.centre) (centre_allowed setting centre) p.centre;
      new = right (centre_allowed setting s.centre) (centre_allowed setting centre) p.centre;
    }

pub move_allowed : (b : List ℕ) (setting : Setting) (s : State) (centre : ℕ) (next : State) → move_answer b setting s centre ≡ Ok next
    → Allowed b setting s centre
move_allowed b setting s centre next e = checked b setting s centre (accepted b setting s centre next e).0

module _ (b : List ℕ) (setting : Setting) (s : State) (centre : ℕ) (next : State) where
  by_rule : (i : Injection) (q : Result Vector Refusal) → kept_by i q ≡ Ok next → (next.moment ≡ i.moment) × (next.centre ≡ i.centre)
  by_rule i (Ok a) e =
      let same : next ≡ carrying i a = cc in
      (ap (λ (x : State). x.moment) same, ap (λ (x : State). x.centre) same)
  by_rule i (Err k) e = let z : ◌≡◌ {A = ℕ} 0 1 = cc in absurd (omega arith)

  by_end : (i : Injection) → kept_or7 b setting i ≡ Ok next → (next.moment ≡ i.moment) × (next.centre ≡ i.centre)
  unfolding kept
  by_end i = go (finite_injection i)
    where
      go : (fin : Bool) → (if fin then kept b setting i otherwise Err Refusal.NotFinite) ≡ Ok next → (next.moment ≡ i.moment) × (next.centre ≡ i.centre)
      go true e = by_rule i (rule_at b setting i) e
      go false e = let z : ◌≡◌ {A = ℕ} 0 1 = cc in absurd (omega arith)

  by_seen : (from to : Option Motion) → move_by b setting s centre from to ≡ Ok next → (next.moment ≡ s.moment) × (next.centre ≡ centre)
  unfolding shifted
  by_seen (Some old) (Some new) e = by_end (shifted s centre old new) e
  by_seen (Some old) None e = let z : ◌≡◌ {A = ℕ} 0 1 = cc in absurd (omega arith)
  by_seen None to e = let z : ◌≡◌ {A = ℕ} 0 1 = cc in absurd (omega arith)

  -- R-6: the moment stays, and the centre is the new one
  pub move_keeps : move_answer b setting s centre ≡ Ok next → (next.moment ≡ s.moment) × (next.centre ≡ centre)
  unfolding move_of
  move_keeps e = go (s.centre =? centre) refl (accepted b setting s centre next e).1
    where
      go : (same : Bool) → (s.centre =? centre) ≡ same
          → (if same then Ok s otherwise move_by b setting s centre (motion_of b s.centre s.moment) (motion_of b centre s.moment)) ≡ Ok next
          → (next.moment ≡ s.moment) × (next.centre ≡ centre)
      go true is e =
          let same : next ≡ s = cc in
          (ap (λ (x : State). x.moment) same, ap (λ (x : State). x.centre) same ∙ eqb-true s.centre centre is)
      go false is e = by_seen (motion_of b s.centre s.moment) (motion_of b centre s.moment) e
