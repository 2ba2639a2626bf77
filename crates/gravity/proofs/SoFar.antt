-- The rule with the sum so far and whether it is sound so far, for laws that go body by body. Assumes nothing.
use mathlib.Core.Bool.{Bool, ◌&&◌}
use mathlib.Core.Path.{◌≡◌, refl}
use Prim.Native.Nat.{ℕ}
use Rattle.base.specs.declared.Refusal.{Refusal}
use Rattle.std.specs.Prelude.{Result, Err, Ok}
use Rattle.state.specs.State.{coefficient_of}
use Rattle.state.specs.declared.Vector.{Vector}
use Rattle.state.specs.declared.Setting.{Setting}
use Rattle.gravity_pull.specs.Pull.{minus, negated, g, sound}
use Rattle.gravity.specs.Acceleration.{Sky, nowhere, last_terms, last_sound, others, view_from, less, all_sound, settled, rule, seen_then}

-- the bodies other than the centre, seen from it
abbrev pub from_centre : ℕ → Vector → Sky → Sky
from_centre centre C (Ok bodies) = Ok (others centre C bodies)
from_centre centre C (Err k) = Err k

-- the sum a, sound so far or not, with these bodies still to come, and then the last terms
abbrev pub finished : Setting → Vector → Vector → Vector → Bool → Vector → Sky → Result Vector Refusal
finished s Q S P ok a (Ok bodies) = settled (ok && all_sound P bodies && last_sound s Q S) (last_terms s Q S (less P a bodies))
finished s Q S P ok a (Err k) = Err k

-- from the beginning on it is the rule
pub whole_rule : (s : Setting) (centre : ℕ) (C sun P : Vector) (bodies : Sky)
    → finished s (minus P (minus nowhere C)) (minus P (minus sun C)) P (sound P) (negated (g P (coefficient_of s centre))) (from_centre centre C bodies)
    ≡ seen_then (λ bodies. rule s (view_from s centre C sun bodies) P) bodies
whole_rule s centre C sun P (Ok bodies) = refl
whole_rule s centre C sun P (Err k) = refl
