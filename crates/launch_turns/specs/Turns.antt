-- Document 02, R-4: the turns of an injection as launch crews speak it, by document 000, section RVIN, and the inverse of the turn.
use Rattle.std.specs.Prelude.{[], ◌∷◌, ℕ, get_or, Float}
use Rattle.std.specs.Float.{nan}
use Rattle.std.specs.Float.Ieee.{neg}
use Rattle.base.specs.Floats.{◌⊕◌, ◌⊖◌, ◌⊗◌, whole}
use Rattle.state.specs.declared.Injection.{Injection}
use Rattle.state.specs.declared.Vector.{Vector}
use Rattle.state.specs.State.{injection_at}
use Rattle.sine.specs.declared.SineCosine.{SineCosine}
use Rattle.earth_precession.specs.Precession.{Table}
use Rattle.earth_rotation.specs.Rotation.{Rotation, times}

-- X = R cos Φ cos Θ, Y = R cos Φ sin Θ, Z = R sin Φ, with R cos Φ first
unfoldable pub place_on : Float → SineCosine → SineCosine → Vector
place_on R F T =
    let rc = R ⊗ F.cosine in
    record { x = rc ⊗ T.cosine; y = rc ⊗ T.sine; z = R ⊗ F.sine }

-- in the local horizontal system: V sin Γ, V cos Γ sin Σ, V cos Γ cos Σ, with V cos Γ first
unfoldable pub horizontal : Float → SineCosine → SineCosine → Vector
horizontal v G S =
    let vc = v ⊗ G.cosine in
    record { x = v ⊗ G.sine; y = vc ⊗ S.sine; z = vc ⊗ S.cosine }

-- "cos Φ, 0, -sin Φ; 0, 1, 0; sin Φ, 0, cos Φ"
unfoldable pub tilt : SineCosine → Table
tilt F =
    (F.cosine ∷ whole 0 ∷ neg F.sine ∷ [])
    ∷ (whole 0 ∷ whole 1 ∷ whole 0 ∷ [])
    ∷ (F.sine ∷ whole 0 ∷ F.cosine ∷ [])
    ∷ []

-- "cos Θ, -sin Θ, 0; sin Θ, cos Θ, 0; 0, 0, 1"
unfoldable pub swing : SineCosine → Table
swing T =
    (T.cosine ∷ neg T.sine ∷ whole 0 ∷ [])
    ∷ (T.sine ∷ T.cosine ∷ whole 0 ∷ [])
    ∷ (whole 0 ∷ whole 0 ∷ whole 1 ∷ [])
    ∷ []

-- the velocity in Earth-fixed axes
unfoldable pub relative : SineCosine → SineCosine → Vector → Vector
relative F T u = times (swing T) (times (tilt F) u)

-- the rate that the forward turn added is subtracted: velocity x loses w·y and velocity y gains w·x
unfoldable pub carried : Float → Vector → Vector → Vector
carried w p v = record { x = v.x ⊖ w ⊗ p.y; y = v.y ⊕ w ⊗ p.x; z = v.z }

-- "to 1950.0 by the inverse of the turn and the precession table, written as the transposed table": its rows are the columns of the table
abbrev pub element : Table → ℕ → ℕ → Float
element table i j = get_or (get_or table i []) j nan

unfoldable pub transposed : Table → Table
transposed table =
    (element table 0 0 ∷ element table 1 0 ∷ element table 2 0 ∷ [])
    ∷ (element table 0 1 ∷ element table 1 1 ∷ element table 2 1 ∷ [])
    ∷ (element table 0 2 ∷ element table 1 2 ∷ element table 2 2 ∷ [])
    ∷ []

-- an injection about the Earth; document 02, R-8: its acceleration is not computed here
abbrev pub about_earth : ℕ → Vector → Vector → Injection
about_earth moment p v = injection_at moment 1 p v

-- from Earth-fixed position and velocity, by the turn of the moment
unfoldable pub returned : ℕ → Rotation → Vector → Vector → Injection
returned moment by p v =
    let back = transposed by.table in
    about_earth moment (times back p) (times back (carried by.w p v))
