-- Document 02, R-7: the two last terms of the acceleration, an oblate Earth and sunlight.
use Rattle.std.specs.Prelude.{Bool, true, ◌&&◌}
use Rattle.base.specs.Choice.{if◌then◌otherwise◌}
use Rattle.base.specs.Floats.{◌⊖◌, ◌⊗◌, ◌⊘◌, whole}
use Rattle.state.specs.State.{n, used}
use Rattle.state.specs.declared.Vector.{Vector}
use Rattle.state.specs.declared.Setting.{Setting}
use Rattle.gravity_pull.specs.Pull.{plus, g, sound}

-- R-7: "Earth oblateness, with setting J and radius A .., on the position from the Earth", Q: "with u = (z·z)/n, x and y lose ((J·g
-- component)·((A-as-A)/n))·(1 - 5·u), z the same with (3 - 5·u), g being the Earth's pull"
abbrev pub flattened : Setting → Vector → Vector → Vector → Vector
flattened s Q pull a =
    let u = (Q.z ⊗ Q.z) ⊘ n Q in
    let part = (s.a ⊗ s.a) ⊘ n Q in
    let side = whole 1 ⊖ whole 5 ⊗ u in
    record {
      x = a.x ⊖ ((s.j ⊗ pull.x) ⊗ part) ⊗ side;
      y = a.y ⊖ ((s.j ⊗ pull.y) ⊗ part) ⊗ side;
      z = a.z ⊖ ((s.j ⊗ pull.z) ⊗ part) ⊗ (whole 3 ⊖ whole 5 ⊗ u);
    }

-- "A term whose J or K is zero is left out"
abbrev pub oblate : Setting → Vector → Vector → Vector
oblate s Q a = if used s.j then flattened s Q (g Q s.earth) a otherwise a

-- "Sunlight, with setting K ..: plus g of the position from the Sun with K"; S is that position
abbrev pub sunlit : Setting → Vector → Vector → Vector
sunlit s S a = if used s.k then plus a (g S s.k) otherwise a

-- "two accelerations, after all others and in this order"
abbrev pub last_terms : Setting → Vector → Vector → Vector → Vector
last_terms s Q S a = sunlit s S (oblate s Q a)

-- n and r3 of a term must be allowed, as for every pull; a term that is left out is not checked
abbrev pub sound_if : Bool → Vector → Bool
sound_if on v = if on then sound v otherwise true

abbrev pub last_sound : Setting → Vector → Vector → Bool
last_sound s Q S = sound_if (used s.j) Q && sound_if (used s.k) S
