-- The acceleration under the bodies as they were looked up is document 01's acceleration, about the centre, with the last terms of R-7. Assumes nothing.
use mathlib.Core.Bool.{Bool, true, false, ◌&&◌, ◌||◌, and-true, and_assoc}
use mathlib.Core.List.{List, [], ◌∷◌}
use mathlib.Core.Path.{◌≡◌, refl, sym, ap, ◌∙◌}
use Prim.Native.Nat.{ℕ, zero, suc}
use lib.Dec.{eqb-suc-zero}
use borrow.Author.Tests.{ne_eqb}
use native.Mathlib.Omega.{arith}
use Rattle.std.specs.Prelude.{Ok, Err}
use Rattle.base.specs.Checks.{Checked}
use Rattle.base.specs.declared.Refusal.{Refusal}
use Rattle.base.specs.Refusals as refusals
use Rattle.base.specs.Choice.{if◌then◌otherwise◌, ◌=?◌}
use Rattle.state.specs.State.{used, coefficient_of, centre_allowed}
use Rattle.state.specs.declared.Vector.{Vector}
use Rattle.state.specs.declared.Setting.{Setting}
use Rattle.book.specs.declared.Motion.{Motion}
use Rattle.gravity_pull.specs.Pull.{plus, minus, negated, g, sound}
use Rattle.gravity_terms.specs.Terms.{sound_if, last_terms, last_sound}
use Rattle.gravity_pull.specs.Sum.{pull_of, taken_off, less_by, less_all, vector_of, start_by}
use Rattle.gravity_terms.specs.Added.{oblate_by, sunlit_by}
use Rattle.gravity_pull.specs.declared.Pull.{Pull}
use Rattle.gravity_pull.specs.declared.Other.{Other}
use Rattle.gravity_bodies.specs.Sky.{Sky, Listed, bodies_of, standing, nowhere, stands, place_of, seen, sky_of, sky}
use Rattle.gravity_bodies.specs.Looked.{found_of, found_in, place_in, besides, ◌ahead_of◌, all_checked, all_found}
use Rattle.gravity_bodies.specs.declared.Sight.{Sight}
use Rattle.gravity_bodies.proofs.Looked.{Looked, unlooked, refused, there, unpulling, sight_of, sights_of, found, looked, placed, used_looked}
pub use Rattle.gravity_bodies.proofs.Looked.{all_clear, seen_entry}
use Rattle.gravity.specs.Acceleration.{others, less, all_sound, settled, acceleration_at}
use Rattle.gravity.proofs.SoFar.{from_centre, finished, whole_rule}
use Rattle.gravity.specs.Sight.{other_of, others_of, sights, listed, settled_by, settled_for, finished_by, acceleration_by, acceleration_for}
use Rattle.gravity.proofs.Centres.{One, one, two, three, four, five, six, centre_one}
use Rattle.gravity.specs.declared.Sights.{Sights}

-- ---- by the refusal: none, or some

module _ {R : Type 0} (held : Refusal → R) (s : Sights R) (setting : Setting) (P : Vector) where
  pub clear : s.checked ≡ Ok tt
      → acceleration_for held s setting P ≡ settled_for held (sunlit_by setting s.sun P (oblate_by setting s.home P (less_all P (start_by P s.own) (listed s.others))))
  unfolding acceleration_for
  clear e = rw e

  pub refuses : (k : R) → s.checked ≡ Err k → acceleration_for held s setting P ≡ Err k
  unfolding acceleration_for
  refuses k h = rw h

-- ---- body by body

less_used : (P : Vector) (sum : Pull) (C : Vector) (s : Sight Refusal) → used s.m ≡ true
    → less_by P sum (other_of C s) ≡ taken_off sum (pull_of (minus P (minus s.place C)) s.m) (pull_of (minus s.place C) s.m)
unfolding less_by other_of
less_used P sum C s u = rw (u, u)

less_unused : (P : Vector) (sum : Pull) (C : Vector) (s : Sight Refusal) → used s.m ≡ false → less_by P sum (other_of C s) ≡ sum
unfolding less_by other_of
less_unused P sum C s u = rw (u, u)

-- the last terms are R-7's
last_is : (st : Setting) (home sun P : Vector) (sum : Pull)
    → settled_by (sunlit_by st sun P (oblate_by st home P sum))
    ≡ settled (sum.sound && last_sound st (minus P home) (minus P sun)) (last_terms st (minus P home) (minus P sun) (vector_of sum))
unfolding oblate_by sunlit_by
last_is st home sun P sum =
    let Q = minus P home in
    let S = minus P sun in
    ap (λ (ok : Bool). settled ok (last_terms st Q S (vector_of sum))) (and_assoc sum.sound (sound_if (used st.j) Q) (sound_if (used st.k) S))

module _ (st : Setting) (Q S P : Vector) (centre : ℕ) (C : Vector) (body : Listed) (M : Motion) where
  -- a body that is there: the rest continues from the sum minus this body,
  onward : (ok : Bool) (a : Vector) (later : Sky) → (body.number =? centre) ≡ false → used body.m ≡ true
      → finished st Q S P ok a (from_centre centre C (seen body (Ok M) later))
      ≡ finished st Q S P ((ok && sound (minus P (minus (standing M.place) C))) && sound (minus (standing M.place) C))
      (minus a (plus (g (minus P (minus (standing M.place) C)) body.m) (g (minus (standing M.place) C) body.m))) (from_centre centre C later)
  onward ok a (Ok bs) far u =
      let R = minus (standing M.place) C in
      let A = sound (minus P R) in
      let B = sound R in
      let bs' = others centre C bs in
      rw (far, u)
      (ap (λ (t : Bool). settled (t && last_sound st Q S) (last_terms st Q S (less P (minus a (plus (g (minus P R) body.m) (g R body.m))) bs')))
      (sym (and_assoc ok (A && B) (all_sound P bs')) ∙ ap (λ (t : Bool). t && all_sound P bs') (sym (and_assoc ok A B))))
  onward ok a (Err k) far u = refl

  -- unless it is the centre, or does not pull
  itself : (ok : Bool) (a : Vector) (later : Sky) → (body.number =? centre) ≡ true
      → finished st Q S P ok a (from_centre centre C (seen body (Ok M) later)) ≡ finished st Q S P ok a (from_centre centre C later)
  itself ok a (Ok bs) near = rw near
  itself ok a (Err k) near = refl

  lit_alone : (ok : Bool) (a : Vector) (later : Sky) → (body.number =? centre) ≡ false → used body.m ≡ false
      → finished st Q S P ok a (from_centre centre C (seen body (Ok M) later)) ≡ finished st Q S P ok a (from_centre centre C later)
  lit_alone ok a (Ok bs) far u = rw (far, u)
  lit_alone ok a (Err k) far u = refl

-- the bodies other than the centre, as the code sees them
others_by : List ℕ → ℕ → ℕ → Vector → List Listed → List Other
others_by b t centre C [] = []
others_by b t centre C (body ∷ rest) =
    if body.number =? centre then others_by b t centre C rest otherwise other_of C (sight_of b t body) ∷ others_by b t centre C rest

module _ (b : List ℕ) (st : Setting) (t : ℕ) (P home sun : Vector) (centre : ℕ) (C : Vector) where
  Agree : List Listed → Pull → Type 0
  Agree bodies sum =
      finished_by st home sun P sum (all_checked (sights_of b t bodies)) (others_by b t centre C bodies)
      ≡ finished st (minus P home) (minus P sun) P sum.sound (vector_of sum) (from_centre centre C (sky_of b t bodies))

  -- a body and those after it, if those after it are known to agree
  module _ (body : Listed) (rest : List Listed) (later : (s : Pull) → Agree rest s) where
    skipped : (sum : Pull) (s : Sight Refusal) → used s.m ≡ false
        → finished_by st home sun P sum (all_checked (sights_of b t rest)) (other_of C s ∷ others_by b t centre C rest)
        ≡ finished st (minus P home) (minus P sun) P sum.sound (vector_of sum) (from_centre centre C (sky_of b t rest))
    unfolding Agree
    skipped sum s u =
        ap (λ (p : Pull). finished_by st home sun P p (all_checked (sights_of b t rest)) (others_by b t centre C rest)) (less_unused P sum C s u) ∙ later sum

    one_more : (near pulls : Bool) → (body.number =? centre) ≡ near → used body.m ≡ pulls → (sum : Pull) (s : Sight Refusal)
        → Looked b body.number body.m body.for_light t s
        → finished_by st home sun P sum (s.checked ahead_of all_checked (sights_of b t rest))
        (if near then others_by b t centre C rest otherwise other_of C s ∷ others_by b t centre C rest)
        ≡ finished st (minus P home) (minus P sun) P sum.sound (vector_of sum) (from_centre centre C (sky_of b t (body ∷ rest)))
    unfolding Agree pull_of
    one_more true pulls near m sum s (unlooked u) = rw u (later sum)
    one_more false pulls near m sum s (unlooked u) = rw u (skipped sum s (unpulling body.m body.for_light u))
    one_more near pulls far m sum s (refused k u e) = rw (u, e)
    one_more true pulls near m sum s (there M i u e) =
        rw (u, e) (later sum ∙ sym (itself st (minus P home) (minus P sun) P centre C body M sum.sound (vector_of sum) (sky_of b t rest) near))
    one_more false false near m sum s (there M i u e) =
        rw (u, e) (skipped sum s m ∙ sym (lit_alone st (minus P home) (minus P sun) P centre C body M sum.sound (vector_of sum) (sky_of b t rest) near m))
    one_more false true near m sum s (there M i u e) =
        let R = minus (standing M.place) C in
        rw (u, e)
        (ap (λ (p : Pull). finished_by st home sun P p (all_checked (sights_of b t rest)) (others_by b t centre C rest)) (less_used P sum C s m)
        ∙ later (taken_off sum (pull_of (minus P R) body.m) (pull_of R body.m))
        ∙ sym (onward st (minus P home) (minus P sun) P centre C body M sum.sound (vector_of sum) (sky_of b t rest) near m))

  by_list : (bodies : List Listed) (sum : Pull) → Agree bodies sum
  unfolding Agree all_checked sights_of others_by sight_of
  by_list [] sum =
      last_is st home sun P sum
      ∙ ap (λ (ok : Bool). settled (ok && last_sound st (minus P home) (minus P sun)) (last_terms st (minus P home) (minus P sun) (vector_of sum))) (sym (and-true sum.sound))
  by_list (body ∷ rest) sum =
      one_more body rest (by_list rest) (body.number =? centre) (used body.m) refl refl sum _ (looked b body.number body.m body.for_light t)

-- ---- about each of the six centres

-- if the Sun does not shine, its position does not matter
unlit : (st : Setting) (Q S S' P : Vector) (ok : Bool) (a : Vector) (bodies : Sky) → used st.k ≡ false → finished st Q S P ok a bodies ≡ finished st Q S' P ok a bodies
unlit st Q S S' P ok a (Ok bodies) u = rw u
unlit st Q S S' P ok a (Err k) u = refl

module _ (b : List ℕ) (s : Setting) (t : ℕ) (P : Vector) where
  -- the Sun as it is seen
  sun_at : Vector
  sun_at = (found_of b 3 s.sun (used s.k) t).place

  sun_stands : (Q C : Vector) (ok : Bool) (a : Vector) (bodies : Sky)
      → finished s Q (minus P (minus sun_at C)) P ok a bodies ≡ finished s Q (minus P (minus (place_of (stands b 3 t)) C)) P ok a bodies
  unfolding sun_at
  sun_stands Q C ok a bodies = go (used s.k) refl
    where
      go : (u : Bool) → used s.k ≡ u
          → finished s Q (minus P (minus sun_at C)) P ok a bodies ≡ finished s Q (minus P (minus (place_of (stands b 3 t)) C)) P ok a bodies
      go true u =
          ap (λ (R : Vector). finished s Q (minus P (minus R C)) P ok a bodies)
          (placed b 3 s.sun (used s.k) t (rw u (any (used s.sun))) _ (found b 3 s.sun (used s.k) t refl))
        where
          any : (v : Bool) → (v || true) ≡ true
          any true = refl
          any false = refl
      go false u = unlit s Q _ _ P ok a bodies u

  about : (c : ℕ) → place_in (found_in b s t) c ≡ place_of (stands b c t)
      → finished_by s (minus nowhere (place_in (found_in b s t) c)) (minus sun_at (place_in (found_in b s t) c)) P (start_by P (coefficient_of s c))
      (all_checked (sights_of b t (bodies_of s))) (others_by b t c (place_in (found_in b s t) c) (bodies_of s))
      ≡ acceleration_at b s c t P
  unfolding Agree pull_of acceleration_at sky
  about c e =
      let C = place_in (found_in b s t) c in
      let sun = place_of (stands b 3 t) in
      let start = negated (g P (coefficient_of s c)) in
      let sky = sky_of b t (bodies_of s) in
      by_list b s t P (minus nowhere C) (minus sun_at C) c C (bodies_of s) (start_by P (coefficient_of s c))
      ∙ sun_stands (minus P (minus nowhere C)) C (sound P) start (from_centre c C sky)
      ∙ ap (λ (C : Vector). finished s (minus P (minus nowhere C)) (minus P (minus sun C)) P (sound P) start (from_centre c C sky)) e
      ∙ whole_rule s c (place_of (stands b c t)) sun P sky

  pub under_is : (c : ℕ) → centre_allowed s c ≡ true → acceleration_by (sights b s c t) s P ≡ acceleration_at b s c t P
  unfolding acceleration_for sights acceleration_at sky sights_of others_by sight_of all_found found_in besides others_of place_in coefficient_of centre_allowed all_checked sun_at
  under_is c ok = go c (centre_one s c ok) ok
    where
      go : (c : ℕ) → One c → centre_allowed s c ≡ true → acceleration_by (sights b s c t) s P ≡ acceleration_at b s c t P
      go c one u = about 1 refl
      go c two u = about 2 (placed b 2 s.moon false t (used_looked _ _ u) _ (found b 2 s.moon false t refl))
      go c three u = about 3 (placed b 3 s.sun (used s.k) t (used_looked _ _ u) _ (found b 3 s.sun (used s.k) t refl))
      go c four u = about 4 (placed b 4 s.venus false t (used_looked _ _ u) _ (found b 4 s.venus false t refl))
      go c five u = about 5 (placed b 5 s.mars false t (used_looked _ _ u) _ (found b 5 s.mars false t refl))
      go c six u = about 6 (placed b 6 s.jupiter false t (used_looked _ _ u) _ (found b 6 s.jupiter false t refl))

-- ---- what follows for the bodies if an acceleration is accepted

pub is_clear : (s : Sights Refusal) (setting : Setting) (P a : Vector) → acceleration_by s setting P ≡ Ok a → s.checked ≡ Ok tt
unfolding acceleration_for
is_clear s setting P a e = go s.checked refl
  where
    go : (c : Checked) → s.checked ≡ c → c ≡ Ok tt
    go (Ok tt) r = refl
    go (Err k) r = let no = refuses refusals.itself s setting P k r in cc
