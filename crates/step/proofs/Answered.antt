-- From the acceleration under the bodies looked up to document 01's acceleration, stage by stage. Assumes nothing.
use mathlib.Core.Bool.{true, ◌&&◌}
use mathlib.Core.List.{List}
use mathlib.Core.Path.{◌≡◌, sym, ap, ◌∙◌}
use Prim.Native.Nat.{ℕ, ◌+◌}
use Rattle.base.specs.declared.Refusal.{Refusal}
use Rattle.std.specs.Prelude.{Result, Ok, Err}
use Rattle.base.specs.Choice.{if◌then◌otherwise◌}
use Rattle.state.specs.State.{position, velocity, centre_allowed, finite_vector, injection_at}
use Rattle.state.specs.declared.Vector.{Vector}
use Rattle.state.specs.declared.State.{State}
use Rattle.state.specs.declared.Setting.{Setting}
use Rattle.gravity.specs.Acceleration.{acceleration_at}
use Rattle.gravity.specs.Sight.{sights, acceleration_by}
use Rattle.gravity.specs.declared.Sights.{Sights}
use Rattle.gravity.specs.declared.Guesses.{Guesses}
use Rattle.gravity_stored.specs.Injection.{kept_by}
use Rattle.gravity.proofs.Under.{under_is}
use Rattle.step.specs.Step.{Moved, and_then, along, weighed, sixth, arrive, keeping}
use Rattle.step.specs.Stages.{velocity2, velocity3, velocity4, lastly}
use Rattle.step_end.specs.Kept.{kept, keeping_under}
use Rattle.step.specs.Entries.{entries_after}
use Rattle.step_end.specs.declared.Stepped.{Stepped}

-- p is the stage's position P, bodies the bodies at its moment, r what the acceleration under them answered
pub answered : (b : List ℕ) (s : Setting) (c : ℕ) → centre_allowed s c ≡ true → (t : ℕ) (P p : Vector) (bodies : Sights Refusal) (r x : Result Vector Refusal)
    → p ≡ P → bodies ≡ sights b s c t → r ≡ acceleration_by bodies s p → r ≡ x → acceleration_at b s c t P ≡ x
answered b s c ok t P p bodies r x place seen by is =
    sym (under_is b s t P c ok)
    ∙ ap (λ (k : Sights Refusal). acceleration_by k s P) (sym seen)
    ∙ ap (acceleration_by bodies s) (sym place)
    ∙ sym by
    ∙ is

pub goes_on : (q : Result Vector Refusal) (a : Vector) (next : Vector → Moved) (entries : Guesses) (r : Result Stepped Refusal)
    → q ≡ Ok a → r ≡ kept entries (next a) → r ≡ kept entries (and_then q next)
goes_on q a next entries r e h = h ∙ sym (ap (λ (x : Result Vector Refusal). kept entries (and_then x next)) e)

pub leaves : (q : Result Vector Refusal) (k : Refusal) (next : Vector → Moved) (entries : Guesses)
    → q ≡ Err k → Err k ≡ kept entries (and_then q next)
leaves q k next entries e = sym (ap (λ (x : Result Vector Refusal). kept entries (and_then x next)) e)

-- the new state's acceleration under the bodies known at its moment is document 02's
ended : (b : List ℕ) (s : Setting) (c : ℕ) → centre_allowed s c ≡ true → (t : ℕ) (bodies : Sights Refusal) → bodies ≡ sights b s c t
    → (p v : Vector) → kept bodies.entries (arrive (keeping_under bodies s) t c p v) ≡ kept (sights b s c t).entries (arrive (keeping (acceleration_at b s c)) t c p v)
ended b s c ok t bodies seen p v =
    ap (λ (k : Sights Refusal). kept k.entries (arrive (keeping_under k s) t c p v)) seen
    ∙ ap (λ (q : Result Vector Refusal). kept (sights b s c t).entries (if finite_vector p && finite_vector v then kept_by (injection_at t c p v) q otherwise Err Refusal.NotFinite))
    (under_is b s t p c ok)

pub ended_lastly : (b : List ℕ) (setting : Setting) (s : State) → centre_allowed setting s.centre ≡ true → (h : ℕ) (bodies : Sights Refusal)
    → bodies ≡ sights b setting s.centre (s.moment + h) → (a1 a2 a3 a4 : Vector)
    → kept bodies.entries (lastly (keeping_under bodies setting) h s a1 a2 a3 a4)
    ≡ kept (entries_after b setting h s) (lastly (keeping (acceleration_at b setting s.centre)) h s a1 a2 a3 a4)
ended_lastly b setting s ok h bodies seen a1 a2 a3 a4 =
    ended b setting s.centre ok (s.moment + h) bodies seen
    (along (position s) (sixth h) (weighed (velocity s) (velocity2 h s a1) (velocity3 h s a2) (velocity4 h s a3)))
    (along (velocity s) (sixth h) (weighed a1 a2 a3 a4))
