-- The refusal numbers of an acceleration: what holds of them holds of every refusal. Assumes nothing.
use mathlib.Core.Bool.{Bool, true, ◌&&◌}
use mathlib.Core.List.{List, [], ◌∷◌}
use mathlib.Core.Path.{◌≡◌, refl}
use Prim.Native.Nat.{ℕ}
use Rattle.base.specs.declared.Refusal.{Refusal}
use Rattle.book.specs.declared.Motion.{Motion}
use Rattle.std.specs.Prelude.{Result, Ok, Err}
use Rattle.base.specs.Choice.{◌=?◌}
use Rattle.base.specs.Checks.{refused_by}
use Rattle.base.specs.Limits.{is_moment}
use Rattle.base.proofs.Cases.{by_if}
use Rattle.state.specs.State.{finite_vector, centre_allowed, looked_up}
use Rattle.state.specs.declared.Vector.{Vector}
use Rattle.state.specs.declared.Setting.{Setting}
use Rattle.state_checks.proofs.Numbers.{common_meets}
use Rattle.book.proofs.Refused as book
use Rattle.gravity_pull.specs.Pull.{minus, negated, g, sound}
use Rattle.gravity_bodies.specs.Sky.{Body, Sky, Listed, bodies_of, stands, place_of, seen, sky_of, sky}
use Rattle.gravity.specs.Acceleration.{last_terms, last_sound, View, view_from, less, all_sound, settled, rule, seen_then, acceleration_at, acceleration_answer}

abbrev sky_by : (Refusal → Bool) → Sky → Bool
sky_by ok (Ok bodies) = true
sky_by ok (Err k) = ok k

module _ (ok : Refusal → Bool) (six : ok Refusal.Cover ≡ true) (seven : ok Refusal.NotFinite ≡ true) where
  seen_refused : (body : Listed) (p : Result Motion Refusal) (later : Sky) → refused_by ok p ≡ true → sky_by ok later ≡ true → sky_by ok (seen body p later) ≡ true
  seen_refused body (Ok R) (Ok later) first rest = refl
  seen_refused body (Ok R) (Err k) first rest = rest
  seen_refused body (Err k) later first rest = first

  stands_refused : (b : List ℕ) (number t : ℕ) → refused_by ok (stands b number t) ≡ true
  stands_refused b number t = by_if (refused_by ok) (number =? 1) refl (book.body_refused ok six seven b number t)

  sky_refused : (b : List ℕ) (t : ℕ) (bodies : List Listed) → sky_by ok (sky_of b t bodies) ≡ true
  sky_refused b t [] = refl
  sky_refused b t (body ∷ rest) =
      by_if (sky_by ok) (looked_up body.m body.for_light)
      (seen_refused body (stands b body.number t) (sky_of b t rest) (stands_refused b body.number t) (sky_refused b t rest))
      (sky_refused b t rest)

  settled_refused : (sofar : Bool) (a : Vector) → refused_by ok (settled sofar a) ≡ true
  settled_refused sofar a = by_if (refused_by ok) (sofar && finite_vector a) refl seven

  under_refused : (s : Setting) (view : View) (P : Vector) → refused_by ok (rule s view P) ≡ true
  under_refused s view P =
      let Q = minus P view.earth in
      let S = minus P view.sun in
      let sofar = sound P && all_sound P view.bodies && last_sound s Q S in
      settled_refused sofar (last_terms s Q S (less P (negated (g P view.m)) view.bodies))

  -- after the bodies are looked up there is no other refusal
  then_refused : (f : List Body → Result Vector Refusal) → ((bodies : List Body) → refused_by ok (f bodies) ≡ true) → (bodies : Sky) → sky_by ok bodies ≡ true
      → refused_by ok (seen_then f bodies) ≡ true
  then_refused f each (Ok bodies) e = each bodies
  then_refused f each (Err k) e = e

  -- the rule refuses only with 6 or 7
  pub rule_refused : (b : List ℕ) (s : Setting) (c t : ℕ) (P : Vector) → refused_by ok (acceleration_at b s c t P) ≡ true
  unfolding acceleration_at sky
  rule_refused b s c t P =
      let C = place_of (stands b c t) in
      let sun = place_of (stands b 3 t) in
      then_refused (λ bodies. rule s (view_from s c C sun bodies) P) (λ bodies. under_refused s (view_from s c C sun bodies) P) (sky b s t) (sky_refused b t (bodies_of s))

  -- the call only with 1, 4, 14, 3, 6 or 7
  pub acceleration_refused : ok Refusal.Book ≡ true → ok Refusal.Setting ≡ true → ok Refusal.Centre ≡ true → ok Refusal.Moment ≡ true → (b : List ℕ) (s : Setting) (c t : ℕ) (P : Vector)
      → refused_by ok (acceleration_answer b s c t P) ≡ true
  unfolding acceleration_answer
  acceleration_refused one four fourteen three b s c t P =
      common_meets (refused_by ok) Err (acceleration_at b s c t P) one four fourteen three seven (rule_refused b s c t P) b s (centre_allowed s c) (is_moment t)
      (finite_vector P)
