-- Document 01, "Setting, state, acceleration", and document 02, R-6 and R-7: the bodies looked up at a moment, seen from the Earth.
use Rattle.base.specs.declared.Refusal.{Refusal}
use Rattle.std.specs.Prelude.{Bool, false, List, [], ◌∷◌, ℕ, Float, Result, Ok, Err}
use Rattle.base.specs.Choice.{if◌then◌otherwise◌, ◌=?◌}
use Rattle.base.specs.Floats.{zero64}
use Rattle.state.specs.State.{used, looked_up}
pub use Rattle.state.specs.State.{nowhere}
use Rattle.state.specs.declared.Vector.{Vector}
use Rattle.state.specs.declared.Setting.{Setting}
use Rattle.book.specs.Position.{body_at}
use Rattle.book_series.specs.declared.Place.{Place}
use Rattle.book.specs.declared.Motion.{Motion}

-- a body that pulls: its number, its coefficient m, and its position R
pub record Body : Type 0 where
  pub number : ℕ
  pub m : Float
  pub R : Vector

-- the bodies looked up, or the first refusal: 6 or 7
abbrev pub Sky : Type 0
Sky = Result (List Body) Refusal

abbrev pub standing : Place → Vector
standing p = record { x = p.x; y = p.y; z = p.z }

-- position and velocity from the Earth: "the Earth's is zero", and it needs no cover
abbrev pub at_rest : Motion
at_rest = record { place = record { x = zero64; y = zero64; z = zero64 }; velocity = record { x = zero64; y = zero64; z = zero64 } }

abbrev pub stands : List ℕ → ℕ → ℕ → Result Motion Refusal
stands b number t = if number =? 1 then Ok at_rest otherwise body_at b number t

-- a body of the setting: its number, its coefficient, and whether its light counts. R-7: "With K above 0 the Sun is looked up as a used
-- body, even where its coefficient is 0 and it does not pull."
pub record Listed : Type 0 where
  pub number : ℕ
  pub m : Float
  pub for_light : Bool

-- one body's answer before the bodies after it: the first refusal counts
abbrev pub seen : Listed → Result Motion Refusal → Sky → Sky
seen body (Ok M) (Ok later) = Ok (record { number = body.number; m = body.m; R = standing M.place } ∷ later)
seen body (Ok M) (Err k) = Err k
seen body (Err k) later = Err k

-- "looked up in rising number first, each for cover (6), then for a finite position (7)"; and, document 02, R-5, for a finite velocity (7)
abbrev pub sky_of : List ℕ → ℕ → List Listed → Sky
sky_of b t [] = Ok []
sky_of b t (body ∷ rest) = if looked_up body.m body.for_light then seen body (stands b body.number t) (sky_of b t rest) otherwise sky_of b t rest

-- "1 Earth, 2 Moon, 3 Sun, 4 Venus, 5 Mars, 6 Jupiter"
abbrev pub bodies_of : Setting → List Listed
bodies_of s =
    record { number = 1; m = s.earth; for_light = false }
    ∷ record { number = 2; m = s.moon; for_light = false }
    ∷ record { number = 3; m = s.sun; for_light = used s.k }
    ∷ record { number = 4; m = s.venus; for_light = false }
    ∷ record { number = 5; m = s.mars; for_light = false }
    ∷ record { number = 6; m = s.jupiter; for_light = false }
    ∷ []

unfoldable pub sky : List ℕ → Setting → ℕ → Sky
sky b s t = sky_of b t (bodies_of s)

-- the position of the centre; if the centre is refused, it is not used
abbrev pub place_of : Result Motion Refusal → Vector
place_of (Ok M) = standing M.place
place_of (Err k) = nowhere
