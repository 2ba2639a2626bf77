-- A body beside the centre stands where it is seen, used or not. The roots at its place are those that it asks for. Assumes nothing.
use mathlib.Core.Bool.{Bool, true, false, ◌||◌, true≢false}
use mathlib.Core.List.{List}
use mathlib.Core.Path.{◌≡◌, refl, sym, ap, ◌∙◌}
use lib.Ieee.{Float}
use Rattle.base.specs.declared.Refusal.{Refusal}
use Rattle.base.specs.Choice.{if◌then◌otherwise◌}
use Rattle.root.specs.Root.{root_of}
use Rattle.state.specs.State.{n, used}
use Rattle.state.specs.declared.Vector.{Vector}
use Rattle.gravity_pull.specs.Pull.{minus}
use Rattle.gravity_pull.specs.Sum.{no_pull, pull_of, near_roots, RootFor, less_by}
use Rattle.gravity_pull.specs.declared.Pull.{Pull}
use Rattle.gravity_pull.specs.declared.Other.{Other}
use Rattle.gravity_bodies.specs.declared.Sight.{Sight}
use Rattle.gravity.specs.Sight.{other_by, other_of, any_used}

one : {A : Type 0} (f : Other → A) (b : Bool) (x y : Other) (r : A) → f x ≡ r → f y ≡ r → f (if b then x otherwise y) ≡ r
one f true x y r p q = p
one f false x y r p q = q

module _ (R : Vector) (m : Float) (by : Pull) where
  pub place_of : (other_by R m by).place ≡ R
  place_of = one (λ (b : Other). b.place) (used m) (record { m = m; place = R; pull = by }) (record { m = m; place = R; pull = no_pull }) R refl refl

  m_of : (other_by R m by).m ≡ m
  m_of = one (λ (b : Other). b.m) (used m) (record { m = m; place = R; pull = by }) (record { m = m; place = R; pull = no_pull }) m refl refl

  -- the root at its place is the one that it asks for; a body that is not used asks for none
  pub root_for : (P : Vector) (b : Other) (root : Float) → b ≡ other_by R m by → root ≡ root_of (n (minus P R)) → RootFor P b root
  root_for P b root e r = λ u. r ∙ ap (λ (Q : Vector). root_of (n (minus P Q))) (sym (ap (λ (b : Other). b.place) e ∙ place_of))

  pub no_root : (P : Vector) (b : Other) (root : Float) → b ≡ other_by R m by → used m ≡ false → RootFor P b root
  no_root P b root e not-used = λ u. absurd (true≢false (sym u ∙ ap used (ap (λ (b : Other). b.m) e ∙ m_of) ∙ not-used))

-- a body with its pull on the centre, or without it if it is not used, is the one that is seen
module _ (C : Vector) (s : Sight Refusal) (R : Vector) (by : Pull) (b : Other) where
  pub other_is : b ≡ other_by R s.m by → R ≡ minus s.place C → by ≡ pull_of R s.m → b ≡ other_of C s
  unfolding other_of
  other_is e r p = e ∙ ap (other_by R s.m) p ∙ ap (λ (Q : Vector). other_by Q s.m (pull_of Q s.m)) r

  pub unused_is : b ≡ other_by R s.m by → R ≡ minus s.place C → used s.m ≡ false → b ≡ other_of C s
  unfolding other_of
  unused_is e r not-used = e ∙ rw (r, not-used)

-- the roots at the places of two bodies
pub roots_near : (P R S : Vector) (m k : Float) (by bz : Pull) (a b : Other) (roots : List Float)
    → a ≡ other_by R m by → b ≡ other_by S k bz → roots ≡ near_roots P R S → roots ≡ near_roots P a.place b.place
roots_near P R S m k by bz a b roots e f r = rw (e, f, place_of R m by, place_of S k bz) r

-- a body that is not used changes no sum
pub no_less : (P : Vector) (sum : Pull) (b : Other) → used b.m ≡ false → less_by P sum b ≡ sum
unfolding less_by
no_less P sum b not-used = rw not-used

-- ---- if none of three bodies is used, each is not

neither : (a b : Bool) → (a || b) ≡ false → (a ≡ false) × (b ≡ false)
neither true b e = absurd (true≢false e)
neither false b e = (refl, e)

pub none_used : (a b c : Float) → any_used a b c ≡ false → (used a ≡ false) × (used b ≡ false) × (used c ≡ false)
none_used a b c e =
    let first = neither (used a) (used b || used c) e in
    let rest = neither (used b) (used c) first.1 in
    (first.0, rest.0, rest.1)
