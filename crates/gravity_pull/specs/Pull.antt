-- Document 01, "Setting, state, acceleration": the pull of a body.
use Rattle.std.specs.Prelude.{Bool, not, ◌&&◌, Float}
use Rattle.std.specs.Float.Ieee.{neg, eq}
use Rattle.std.specs.Float.Ieee.Scale.{finite}
use Rattle.base.specs.Floats.{◌⊕◌, ◌⊖◌, ◌⊗◌, ◌⊘◌, zero64}
use Rattle.state.specs.State.{n}
use Rattle.state.specs.declared.Vector.{Vector}
use Rattle.root.specs.Root.{root_of}

-- vectors "component by component"
abbrev pub plus : Vector → Vector → Vector
plus u v = record { x = u.x ⊕ v.x; y = u.y ⊕ v.y; z = u.z ⊕ v.z }

abbrev pub minus : Vector → Vector → Vector
minus u v = record { x = u.x ⊖ v.x; y = u.y ⊖ v.y; z = u.z ⊖ v.z }

abbrev pub negated : Vector → Vector
negated v = record { x = neg v.x; y = neg v.y; z = neg v.z }

-- "r3 = n·root(n)"
unfoldable pub r3 : Vector → Float
r3 v = n v ⊗ root_of (n v)

-- "pull g(v, m) has components (m·component)/r3"
unfoldable pub g : Vector → Float → Vector
g v m = record { x = (m ⊗ v.x) ⊘ r3 v; y = (m ⊗ v.y) ⊘ r3 v; z = (m ⊗ v.z) ⊘ r3 v }

-- "refused with 7 if some n is not finite, some r3 is zero or not finite"
abbrev pub divisible : Float → Float → Bool
divisible n r3 = finite n && finite r3 && not (eq r3 zero64)

unfoldable pub sound : Vector → Bool
sound v = divisible (n v) (r3 v)
