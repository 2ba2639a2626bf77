-- The acceleration before document 02's R-7: about any centre, without the last terms. Also document 01's acceleration and start checks
-- before R-6: about the Earth, over the bodies from 2 on.
use Rattle.base.specs.declared.Refusal.{Refusal}
use Rattle.std.specs.Prelude.{false, ◌&&◌, List, [], ◌∷◌, ℕ, Float, Result}
use Rattle.base.specs.Checks.{Checked, require, ◌before◌}
use Rattle.base.specs.Limits.{is_moment}
use Rattle.state.specs.State.{finite_vector, finite_state, setting_allowed, coefficient_of}
use Rattle.state.specs.declared.Vector.{Vector}
use Rattle.state.specs.declared.State.{State}
use Rattle.state.specs.declared.Setting.{Setting}
use Rattle.book.specs.Passes.{passes}
use Rattle.gravity.specs.Pull.{negated, g, sound}
use Rattle.gravity.specs.Acceleration.{Body, Listed, sky, sky_of, stands, place_of, others, less, all_sound, settled, seen_then}
use Rattle.run_checks.specs.Start.{step_allowed, within_steps}

-- "start with -g(P, Earth)", whose coefficient is m; "For each used body ..: subtract ..", and no terms after them
abbrev pub rule_before : Float → Vector → List Body → Result Vector Refusal
rule_before m P bodies = settled (sound P && all_sound P bodies) (less P (negated (g P m)) bodies)

-- R-6: "the centre's own pull, then every other used body .. at its position less the centre's"
unfoldable pub without_terms : List ℕ → Setting → ℕ → ℕ → Vector → Result Vector Refusal
without_terms b s centre t P =
    let C = place_of (stands b centre t) in
    seen_then (λ bodies. rule_before (coefficient_of s centre) P (others centre C bodies)) (sky b s t)

-- "2 Moon, 3 Sun, 4 Venus, 5 Mars, 6 Jupiter"
abbrev pub bodies_before : Setting → List Listed
bodies_before s =
    record { number = 2; m = s.moon; for_light = false }
    ∷ record { number = 3; m = s.sun; for_light = false }
    ∷ record { number = 4; m = s.venus; for_light = false }
    ∷ record { number = 5; m = s.mars; for_light = false }
    ∷ record { number = 6; m = s.jupiter; for_light = false }
    ∷ []

-- "Acceleration at position P: start with -g(P, Earth)"; "For each used body from 2 on in rising number, at R: subtract .."
unfoldable pub acceleration_before : List ℕ → Setting → ℕ → Vector → Result Vector Refusal
acceleration_before b s t P = seen_then (rule_before s.earth P) (sky_of b t (bodies_before s))

-- "Acceleration: 1, 4, 3, 7 (position), then its own rule"
unfoldable pub answer_before : List ℕ → Setting → ℕ → Vector → Result Vector Refusal
answer_before b s t P =
    require (passes b) Refusal.Book
    before require (setting_allowed s) Refusal.Setting
    before require (is_moment t) Refusal.Moment
    before require (finite_vector P) Refusal.NotFinite
    before acceleration_before b s t P

-- "Run call order: 1, 4, 3 (state, then target), 7 (state), 2, 5": before R-8 the stored acceleration was not checked
unfoldable pub start_before : List ℕ → Setting → State → ℕ → ℕ → Checked
start_before b setting s h target =
    require (passes b) Refusal.Book
    before require (setting_allowed setting) Refusal.Setting
    before require (is_moment s.moment) Refusal.Moment
    before require (is_moment target) Refusal.Moment
    before require (finite_state s) Refusal.NotFinite
    before require (step_allowed h) Refusal.Step
    before require (within_steps s.moment h target) Refusal.Target
