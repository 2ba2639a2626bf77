-- What the code keeps for a moment about a centre: the other bodies, each with its pull on the centre, computed once.
use Rattle.base.specs.declared.Refusal.{Refusal}
use Rattle.base.specs.Refusals.{itself}
use Rattle.std.specs.Prelude.{Bool, ◌||◌, List, [], ◌∷◌, ◌≡◌, ℕ, Float, slice_index_or, Result, Ok, Err, ◌&&◌}
use Rattle.std.specs.Float.{nan}
use Rattle.base.specs.Choice.{if◌then◌otherwise◌}
use Rattle.base.specs.Checks.{Checked}
use Rattle.state.specs.State.{finite_vector, used, coefficient_of}
use Rattle.state.specs.declared.Vector.{Vector}
use Rattle.state.specs.declared.Setting.{Setting}
use Rattle.gravity_pull.specs.Pull.{minus}
use Rattle.gravity_pull.specs.Sum.{pull_of, no_pull, less_all, start_by, vector_of, near_roots, RootFor}
use Rattle.gravity_pull.specs.declared.CraftRoots.{CraftRoots}
use Rattle.gravity_terms.specs.Added.{oblate_by, sunlit_by}
use Rattle.gravity_pull.specs.declared.Pull.{Pull}
use Rattle.gravity_pull.specs.declared.Other.{Other}
use Rattle.gravity_bodies.specs.Sky.{nowhere}
use Rattle.gravity_bodies.specs.Looked.{blank, place_in, besides, ◌ahead_of◌}
pub use Rattle.gravity_bodies.specs.Looked.{entry_or}
unfoldable pub use Rattle.gravity_bodies.specs.Looked.{found_of, found_in, all_found}
use Rattle.gravity_bodies.specs.declared.Sight.{Sight}
use Rattle.gravity_bodies.specs.declared.Found.{Found}
use Rattle.gravity_bodies.specs.declared.Besides.{Besides}
use Rattle.gravity.specs.declared.Others.{Others}
use Rattle.gravity.specs.declared.Guesses.{Guesses}
use Rattle.gravity.specs.declared.Sights.{Sights}

-- a body seen from the centre; if it is used, with its pull on the centre
abbrev pub other_by : Vector → Float → Pull → Other
other_by R m pull = if used m then record { m = m; place = R; pull = pull } otherwise record { m = m; place = R; pull = no_pull }

unfoldable pub other_of : Vector → Sight Refusal → Other
other_of C s = let R = minus s.place C in other_by R s.m (pull_of R s.m)

unfoldable pub others_of : Vector → Besides Refusal → Others
others_of C s =
    record {
      first = other_of C s.first;
      second = other_of C s.second;
      third = other_of C s.third;
      fourth = other_of C s.fourth;
      fifth = other_of C s.fifth;
    }

-- one of three bodies is used
abbrev pub any_used : Float → Float → Float → Bool
any_used a b c = used a || (used b || used c)

-- the roots that three bodies ask for at P, each if the body is used
pub record RootsFor (P : Vector) (a b c : Other) (roots : List Float) : Type 0 where
  pub for_a : RootFor P a (slice_index_or roots 0 nan)
  pub for_b : RootFor P b (slice_index_or roots 1 nan)
  pub for_c : RootFor P c (slice_index_or roots 2 nan)

-- the roots that the centre and the bodies beside it ask for at P: the last three bodies each if it is used
pub record RootsAt (P : Vector) (o : Others) (roots : CraftRoots) : Type 0 where
  pub near : roots.near ≡ near_roots P o.first.place o.second.place
  pub later : RootsFor P o.third o.fourth o.fifth roots.later

abbrev pub entries_of : Found Refusal → Guesses
entries_of f = record { moon = f.moon.entry; sun = f.sun.entry; venus = f.venus.entry; mars = f.mars.entry; jupiter = f.jupiter.entry }

unfoldable pub sights : List ℕ → Setting → ℕ → ℕ → Sights Refusal
sights b s centre t =
    let f = found_in b s t in
    record {
      checked = all_found f;
      entries = entries_of f;
      own = coefficient_of s centre;
      home = minus nowhere (place_in f centre);
      sun = minus f.sun.place (place_in f centre);
      others = others_of (place_in f centre) (besides centre (blank s.earth (Ok tt)) f);
    }

abbrev pub listed : Others → List Other
listed o = o.first ∷ o.second ∷ o.third ∷ o.fourth ∷ o.fifth ∷ []

-- The acceleration under these bodies, whatever a refusal is held as: `held` turns the rule's own 7 into that.
abbrev pub settled_for : {R : Type 0} → (Refusal → R) → Pull → Result Vector R
settled_for held p = if p.sound && finite_vector (vector_of p) then Ok (vector_of p) otherwise Err (held Refusal.NotFinite)

abbrev pub finished_for : {R : Type 0} → (Refusal → R) → Setting → Vector → Vector → Vector → Pull → Result (Unit {0}) R → List Other → Result Vector R
finished_for held s home sun P sum checked os = checked ahead_of settled_for held (sunlit_by s sun P (oblate_by s home P (less_all P sum os)))

unfoldable pub acceleration_for : {R : Type 0} → (Refusal → R) → Sights R → Setting → Vector → Result Vector R
acceleration_for held s setting P = finished_for held setting s.home s.sun P (start_by P s.own) s.checked (listed s.others)

-- the same where a refusal is held as itself
abbrev pub settled_by : Pull → Result Vector Refusal
settled_by = settled_for itself

abbrev pub finished_by : Setting → Vector → Vector → Vector → Pull → Checked → List Other → Result Vector Refusal
finished_by = finished_for itself

abbrev pub acceleration_by : Sights Refusal → Setting → Vector → Result Vector Refusal
acceleration_by = acceleration_for itself
