-- An acceleration that the rule gives is finite. Assumes nothing.
use mathlib.Core.Bool.{Bool, true, false, ◌&&◌}
use mathlib.Core.List.{List}
use mathlib.Core.Path.{◌≡◌, refl, sym, ap, ◌∙◌}
use Prim.Native.Nat.{ℕ}
use native.Mathlib.Omega.{arith}
use Rattle.base.specs.declared.Refusal.{Refusal}
use Rattle.std.specs.Prelude.{Result, Ok, Err}
use Rattle.base.specs.Choice.{if◌then◌otherwise◌}
use Rattle.state.specs.State.{finite_vector}
use Rattle.state.specs.declared.Vector.{Vector}
use Rattle.state.specs.declared.Setting.{Setting}
use Rattle.base.proofs.Bools.{right}
use Rattle.gravity_pull.specs.Pull.{minus, negated, g, sound}
use Rattle.gravity.specs.Acceleration.{Body, Sky, sky, stands, place_of, last_terms, last_sound, View, view_from, less, all_sound, settled, rule, seen_then, acceleration_at}

settled_finite : (ok : Bool) (v a : Vector) → settled ok v ≡ Ok a → finite_vector a ≡ true
settled_finite ok v a = go (ok && finite_vector v) refl
  where
    go : (both : Bool) → (ok && finite_vector v) ≡ both → (if both then Ok v otherwise Err Refusal.NotFinite) ≡ Ok a → finite_vector a ≡ true
    go true f e = let same : v ≡ a = cc in ap finite_vector (sym same) ∙ right ok (finite_vector v) f
    go false f e = let z : ◌≡◌ {A = ℕ} 0 1 = cc in absurd (omega arith)

under_finite : (s : Setting) (view : View) (P a : Vector) → rule s view P ≡ Ok a → finite_vector a ≡ true
under_finite s view P a e =
    let Q = minus P view.earth in
    let S = minus P view.sun in
    let sofar = sound P && all_sound P view.bodies && last_sound s Q S in
    settled_finite sofar (last_terms s Q S (less P (negated (g P view.m)) view.bodies)) a e

seen_finite : (f : List Body → Result Vector Refusal) → ((bodies : List Body) (a : Vector) → f bodies ≡ Ok a → finite_vector a ≡ true) → (bodies : Sky) (a : Vector)
    → seen_then f bodies ≡ Ok a → finite_vector a ≡ true
seen_finite f each (Ok bodies) a e = each bodies a e
seen_finite f each (Err k) a e = let z : ◌≡◌ {A = ℕ} 0 1 = cc in absurd (omega arith)

pub rule_finite : (b : List ℕ) (s : Setting) (c t : ℕ) (P a : Vector) → acceleration_at b s c t P ≡ Ok a → finite_vector a ≡ true
unfolding acceleration_at
rule_finite b s c t P a e =
    let C = place_of (stands b c t) in
    let sun = place_of (stands b 3 t) in
    seen_finite (λ bodies. rule s (view_from s c C sun bodies) P) (λ bodies. under_finite s (view_from s c C sun bodies) P) (sky b s t) a e
