-- How the code computes pulls: a pull, whether its lengths are allowed, and sums of pulls.
use Rattle.std.specs.Prelude.{Bool, true, ◌&&◌, List, [], ◌∷◌, ◌≡◌, Float}
use Rattle.std.specs.Float.Ieee.{neg}
use Rattle.base.specs.Choice.{if◌then◌otherwise◌}
use Rattle.base.specs.Floats.{◌⊕◌, ◌⊖◌, ◌⊗◌, ◌⊘◌, zero64}
use Rattle.root.specs.Root.{root_of, roots_of}
use Rattle.root_known.specs.Known.{rooted_of_all}
use Rattle.state.specs.State.{n, used}
use Rattle.state.specs.declared.Vector.{Vector}
use Rattle.gravity_pull.specs.Pull.{g, sound, divisible, minus}
use Rattle.gravity_pull.specs.declared.Pull.{Pull}
use Rattle.gravity_pull.specs.declared.CraftRoots.{CraftRoots}
use Rattle.gravity_pull.specs.declared.FarPulls.{FarPulls}
use Rattle.gravity_pull.specs.declared.ThreeFarPulls.{ThreeFarPulls}
use Rattle.gravity_pull.specs.declared.ThreePulls.{ThreePulls}
use Rattle.gravity_pull.specs.declared.NearSum.{NearSum}
use Rattle.gravity_pull.specs.declared.Other.{Other}

-- the pull of a body of coefficient m that lies v away, with n and its root
abbrev pub pull_by : Vector → Float → Float → Float → Pull
pull_by v m n root =
    let r3 = n ⊗ root in
    record { x = (m ⊗ v.x) ⊘ r3; y = (m ⊗ v.y) ⊘ r3; z = (m ⊗ v.z) ⊘ r3; sound = divisible n r3 }

-- a sum of pulls, and whether every n and r3 so far was allowed
abbrev pub soundly : Vector → Bool → Pull
soundly a ok = record { x = a.x; y = a.y; z = a.z; sound = ok }

unfoldable pub pull_of : Vector → Float → Pull
pull_of v m = soundly (g v m) (sound v)

abbrev pub no_pull : Pull
no_pull = record { x = zero64; y = zero64; z = zero64; sound = true }

-- a sum of pulls minus those of one body: on the craft, and on the centre
abbrev pub taken_off : Pull → Pull → Pull → Pull
taken_off sum near far =
    record {
      x = sum.x ⊖ (near.x ⊕ far.x);
      y = sum.y ⊖ (near.y ⊕ far.y);
      z = sum.z ⊖ (near.z ⊕ far.z);
      sound = (sum.sound && near.sound) && far.sound;
    }

abbrev pub less_near : Pull → Other → Pull → Pull
less_near sum b near = if used b.m then taken_off sum near b.pull otherwise sum

unfoldable pub less_by : Vector → Pull → Other → Pull
less_by P sum b = less_near sum b (pull_of (minus P b.place) b.m)

abbrev pub less_all : Vector → Pull → List Other → Pull
less_all P sum [] = sum
less_all P sum (b ∷ rest) = less_all P (less_by P sum b) rest

abbrev pub vector_of : Pull → Vector
vector_of p = record { x = p.x; y = p.y; z = p.z }

-- the start of the sum: minus the pull of the centre
abbrev pub opposite : Pull → Pull
opposite p = record { x = neg p.x; y = neg p.y; z = neg p.z; sound = p.sound }

abbrev pub start_by : Vector → Float → Pull
start_by P own = opposite (pull_of P own)

-- the roots that the pulls on a craft at P ask for, of the centre and of bodies at u and v
abbrev pub near_roots : Vector → Vector → Vector → List Float
near_roots P u v = roots_of (n P ∷ n (minus P u) ∷ n (minus P v) ∷ [])

-- the pulls of two bodies on the centre, with those roots
abbrev pub far_pulls_of : Vector → Vector → Float → Vector → Float → FarPulls
far_pulls_of P u a v b = record { first = pull_of u a; second = pull_of v b; roots = near_roots P u v }

-- the roots that the pulls of three bodies on a craft at P ask for
abbrev pub other_roots : Vector → Vector → Vector → Vector → List Float
other_roots P u v w = roots_of (n (minus P u) ∷ n (minus P v) ∷ n (minus P w) ∷ [])

-- the pulls of three bodies on the centre, with those roots
abbrev pub three_far_pulls_of : Vector → Vector → Float → Vector → Float → Vector → Float → ThreeFarPulls
three_far_pulls_of P u a v b w c =
    record { first = pull_of u a; second = pull_of v b; third = pull_of w c; roots = other_roots P u v w }

-- the roots of the centre and of five bodies
abbrev pub six_roots_at : Vector → Vector → Vector → Vector → Vector → Vector → CraftRoots
six_roots_at P u v w x y = record { near = near_roots P u v; later = other_roots P w x y }

-- the root that the pull of a body on a craft at P asks for, if the body is used
abbrev pub RootFor : Vector → Other → Float → Type 0
RootFor P b root = used b.m ≡ true → root ≡ root_of (n (minus P b.place))

-- three pulls side by side, with each n and its root
abbrev pub pulls_of : Vector → Float → Vector → Float → Vector → Float → ThreePulls
pulls_of u a v b w c = record { first = pull_of u a; second = pull_of v b; third = pull_of w c; known = rooted_of_all (n u ∷ n v ∷ n w ∷ []) }

-- the centre and the first two other bodies, with each n and its root
abbrev pub near_sum : Vector → Float → Other → Other → NearSum
near_sum P own first second =
    record {
      sum = less_by P (less_by P (start_by P own) first) second;
      known = rooted_of_all (n P ∷ n (minus P first.place) ∷ n (minus P second.place) ∷ []);
    }
