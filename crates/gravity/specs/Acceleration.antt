-- Document 01, "Setting, state, acceleration", and document 02, R-6 and R-7: the acceleration about a centre by the bodies looked up, with
-- an oblate Earth and sunlight.
use Rattle.base.specs.declared.Refusal.{Refusal}
use Rattle.std.specs.Prelude.{Bool, true, not, ◌&&◌, List, [], ◌∷◌, ℕ, Float, Result, Ok, Err}
use Rattle.base.specs.Choice.{if◌then◌otherwise◌, ◌=?◌}
use Rattle.base.specs.Limits.{is_moment}
use Rattle.state.specs.State.{finite_vector, used, coefficient_of, centre_allowed}
use Rattle.state.specs.declared.Vector.{Vector}
use Rattle.state.specs.declared.Setting.{Setting}
use Rattle.base.specs.Checks.{◌before◌}
use Rattle.state_checks.specs.Common.{common_checks}
use Rattle.gravity_pull.specs.Pull.{plus, minus, negated, g, sound}
pub use Rattle.gravity_terms.specs.Terms.{last_terms, last_sound}
pub use Rattle.gravity_bodies.specs.Sky.{Body, Sky, Listed, standing, nowhere, at_rest, stands, seen, sky_of, place_of}
unfoldable pub use Rattle.gravity_bodies.specs.Sky.{sky}

-- ---- what is seen from the centre

-- "every other used body, the Earth included, in rising number, at its position less the centre's": C is the position of the centre
abbrev pub others : ℕ → Vector → List Body → List Body
others centre C [] = []
others centre C (body ∷ rest) =
    if body.number =? centre then others centre C rest otherwise
    if not (used body.m) then others centre C rest otherwise
    record { number = body.number; m = body.m; R = minus body.R C } ∷ others centre C rest

-- the coefficient of the centre, the other used bodies, and the positions of the Earth and the Sun, all seen from the centre
pub record View : Type 0 where
  pub m : Float
  pub bodies : List Body
  pub earth : Vector
  pub sun : Vector

-- the same for a centre at C and the Sun at `sun`, both seen from the Earth: "(the Earth's is zero)"
abbrev pub view_from : Setting → ℕ → Vector → Vector → List Body → View
view_from s centre C sun bodies =
    record { m = coefficient_of s centre; bodies = others centre C bodies; earth = minus nowhere C; sun = minus sun C }

-- ---- the rule

-- "For each used body .. at R: subtract, component by component, g(P - R, m) + g(R, m)"
abbrev pub less : Vector → Vector → List Body → Vector
less P a [] = a
less P a (body ∷ rest) = less P (minus a (plus (g (minus P body.R) body.m) (g body.R body.m))) rest

-- every n and r3 of these bodies is allowed
abbrev pub all_sound : Vector → List Body → Bool
all_sound P [] = true
all_sound P (body ∷ rest) = sound (minus P body.R) && sound body.R && all_sound P rest

-- "refused with 7 if some n is not finite, some r3 is zero or not finite, or a final component is not finite"
abbrev pub settled : Bool → Vector → Result Vector Refusal
settled ok a = if ok && finite_vector a then Ok a otherwise Err Refusal.NotFinite

-- "Acceleration at position P: start with -g(P, Earth)", or (R-6) "the centre's own pull"; "for each used body .. subtract". Then (R-7) the
-- last terms, "after all others", at Q from the Earth and S from the Sun.
abbrev pub rule : Setting → View → Vector → Result Vector Refusal
rule s view P =
    let Q = minus P view.earth in
    let S = minus P view.sun in
    let own = negated (g P view.m) in
    let under = less P own view.bodies in
    let final = last_terms s Q S under in
    settled (sound P && all_sound P view.bodies && last_sound s Q S) final

-- "These bodies are looked up in rising number first": the first refusal is the answer, 6 or 7
abbrev pub seen_then : (List Body → Result Vector Refusal) → Sky → Result Vector Refusal
seen_then f (Ok bodies) = f bodies
seen_then f (Err k) = Err k

unfoldable pub acceleration_at : List ℕ → Setting → ℕ → ℕ → Vector → Result Vector Refusal
acceleration_at b s centre t P =
    let C = place_of (stands b centre t) in
    let sun = place_of (stands b 3 t) in
    seen_then (λ bodies. rule s (view_from s centre C sun bodies) P) (sky b s t)

-- "Acceleration: 1, 4, 3, 7 (position), then its own rule"; R-6: 14 "directly after 4"
unfoldable pub acceleration_answer : List ℕ → Setting → ℕ → ℕ → Vector → Result Vector Refusal
acceleration_answer b s centre t P =
    common_checks b s (centre_allowed s centre) (is_moment t) (finite_vector P)
    before acceleration_at b s centre t P
