-- Document 01, "Earth-fixed turn and conic": the figures of the conic for a centre coefficient m.
use Rattle.std.specs.Prelude.{Float}
use Rattle.std.specs.Float.Ieee.{neg}
use Rattle.base.specs.Choice.{if◌then◌otherwise◌}
use Rattle.base.specs.Floats.{◌⊕◌, ◌⊖◌, ◌⊗◌, ◌⊘◌, zero64, below0, whole}
use Rattle.state.specs.declared.State.{State}
use Rattle.state.specs.declared.Vector.{Vector}
use Rattle.state.specs.State.{position, velocity, n}
use Rattle.root.specs.Root.{root_of}
use Rattle.conic_checks.specs.declared.Orbit.{Orbit}

-- "C = (y·vz - z·vy, z·vx - x·vz, x·vy - y·vx)"
unfoldable pub cross : Vector → Vector → Vector
cross p v =
    record {
      x = p.y ⊗ v.z ⊖ p.z ⊗ v.y;
      y = p.z ⊗ v.x ⊖ p.x ⊗ v.z;
      z = p.x ⊗ v.y ⊖ p.y ⊗ v.x;
    }

-- "e = root of e2, or 0 if e2 < 0"
unfoldable pub eccentricity : Float → Float
eccentricity e2 = if below0 e2 then zero64 otherwise root_of e2

-- "far distance a·(1 + e)" for an ellipse, "root of c3" for a hyperbola
unfoldable pub last_figure : Float → Float → Float → Float
last_figure c3 a e = if below0 c3 then a ⊗ (whole 1 ⊕ e) otherwise root_of c3

-- n of the position, v2, c3, n(C), p, e2, e, a, q and the last figure, by their formulas
unfoldable pub orbit : Float → State → Orbit
orbit m state =
    let nP = n (position state) in
    let r = root_of nP in
    let v2 = n (velocity state) in
    let c3 = v2 ⊖ (whole 2 ⊗ m) ⊘ r in
    let nC = n (cross (position state) (velocity state)) in
    let p = nC ⊘ m in
    let e2 = whole 1 ⊕ (p ⊗ c3) ⊘ m in
    let e = eccentricity e2 in
    let a = neg (m ⊘ c3) in
    let q = p ⊘ (whole 1 ⊕ e) in
    let last = last_figure c3 a e in
    record { n = nP; v2 = v2; c3 = c3; nc = nC; p = p; e2 = e2; e = e; a = a; q = q; last = last }
