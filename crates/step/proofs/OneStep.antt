-- What follows from a step that was done: its moment, its centre, its finite components and its acceleration. Every body was seen at its
-- end. Assumes nothing.
use mathlib.Core.Bool.{Bool, true, false, ◌&&◌}
use mathlib.Core.List.{List}
use mathlib.Core.Path.{◌≡◌, refl, sym, ap, ◌∙◌}
use Prim.Native.Nat.{ℕ, ◌+◌, ◌/◌}
use native.Mathlib.Omega.{arith}
use Rattle.base.specs.declared.Refusal.{Refusal}
use Rattle.std.specs.Prelude.{Result, Ok, Err}
use Rattle.base.specs.Choice.{if◌then◌otherwise◌}
use Rattle.state.specs.State.{position, velocity, acceleration, injection_at, carrying, finite_vector, finite_state, centre_allowed}
use Rattle.state.specs.declared.Vector.{Vector}
use Rattle.state.specs.declared.State.{State}
use Rattle.state.specs.declared.Injection.{Injection}
use Rattle.state.specs.declared.Setting.{Setting}
use Rattle.gravity.specs.Acceleration.{acceleration_at}
use Rattle.gravity.specs.Sight.{sights}
use Rattle.gravity.proofs.Under.{under_is, is_clear}
use Rattle.gravity_stored.specs.Injection.{kept_by}
use Rattle.step.specs.Step.{Moved, and_then, arrive, along, weighed, step_h, half, sixth, keeping, step}
use Rattle.step.specs.Stages.{velocity2, velocity3, velocity4, lastly, stage3, stage4}

pub record Done (b : List ℕ) (setting : Setting) (h : ℕ) (s next : State) : Type 0 where
  pub moment : next.moment ≡ s.moment + h
  pub centre : next.centre ≡ s.centre
  pub finite : finite_state next ≡ true
  pub rule : acceleration_at b setting next.centre next.moment (position next) ≡ Ok (acceleration next)
  pub clear : centre_allowed setting s.centre ≡ true → (sights b setting s.centre (s.moment + h)).checked ≡ Ok tt

-- a stage that led to a state had an acceleration
pub record Through (q : Result Vector Refusal) (rest : Vector → Moved) (next : State) : Type 0 where
  pub a : Vector
  pub is : q ≡ Ok a
  pub on : rest a ≡ Ok next

through : (q : Result Vector Refusal) (rest : Vector → Moved) (next : State) → and_then q rest ≡ Ok next → Through q rest next
through (Ok a) rest next e = record { a = a; is = refl; on = e }
through (Err k) rest next e = let z : ◌≡◌ {A = ℕ} 0 1 = cc in absurd (omega arith)

-- an end that led to a state had finite components
arrived : (ends : Injection → Moved) (t c : ℕ) (p v : Vector) (next : State) → arrive ends t c p v ≡ Ok next
    → ((finite_vector p && finite_vector v) ≡ true) × (ends (injection_at t c p v) ≡ Ok next)
arrived ends t c p v next = go (finite_vector p && finite_vector v) refl
  where
    go : (ok : Bool) → (finite_vector p && finite_vector v) ≡ ok → (if ok then ends (injection_at t c p v) otherwise Err Refusal.NotFinite) ≡ Ok next
        → ((finite_vector p && finite_vector v) ≡ true) × (ends (injection_at t c p v) ≡ Ok next)
    go true f e = (f, e)
    go false f e = let z : ◌≡◌ {A = ℕ} 0 1 = cc in absurd (omega arith)

-- and the rule gave it an acceleration, which it carries
keeps : (q : Result Vector Refusal) (i : Injection) (next : State) → kept_by i q ≡ Ok next → (a : Vector) × (q ≡ Ok a) × (next ≡ carrying i a)
keeps (Ok a) i next e = (a, refl, cc)
keeps (Err k) i next e = let z : ◌≡◌ {A = ℕ} 0 1 = cc in absurd (omega arith)

pub done : (b : List ℕ) (setting : Setting) (h : ℕ) (s next : State) → step b setting h s ≡ Ok next → Done b setting h s next
unfolding step
done b setting h s next e =
    let acc = acceleration_at b setting s.centre in
    let ends = keeping acc in
    let a1 = acceleration s in
    let P2 = along (position s) (half h) (velocity s) in
    let two = through (acc (s.moment + h / 2) P2) (stage3 acc ends h s a1) next e in
    let P3 = along (position s) (half h) (velocity2 h s a1) in
    let three = through (acc (s.moment + h / 2) P3) (stage4 acc ends h s a1 two.a) next two.on in
    let P4 = along (position s) (step_h h) (velocity3 h s two.a) in
    let four = through (acc (s.moment + h) P4) (lastly ends h s a1 two.a three.a) next three.on in
    let P = along (position s) (sixth h) (weighed (velocity s) (velocity2 h s a1) (velocity3 h s two.a) (velocity4 h s three.a)) in
    let V1 = along (velocity s) (sixth h) (weighed a1 two.a three.a four.a) in
    let last = arrived ends (s.moment + h) s.centre P V1 next four.on in
    let there = keeps (acc (s.moment + h) P) (injection_at (s.moment + h) s.centre P V1) next last.1 in
    record {
      moment = ap (λ (x : State). x.moment) there.2;
      centre = ap (λ (x : State). x.centre) there.2;
      finite = ap finite_state there.2 ∙ last.0;
      rule =
          ap (λ (x : State). acceleration_at b setting x.centre x.moment (position x)) there.2
          ∙ there.1
          ∙ ap (λ (x : State). Ok (acceleration x)) (sym there.2);
      clear = λ ok. is_clear (sights b setting s.centre (s.moment + h)) setting P4 four.a (under_is b setting (s.moment + h) P4 s.centre ok ∙ four.is);
    }
