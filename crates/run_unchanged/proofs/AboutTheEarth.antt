-- Document 02, R-7: with J and K zero all bits and refusals are what they were; and R-6: "About the Earth all bits stay as they were". Assumes
-- nothing.
use mathlib.Core.Bool.{Bool, true, false, ◌&&◌, ◌||◌, and-true}
use mathlib.Core.List.{List, [], ◌∷◌}
use mathlib.Core.Path.{◌≡◌, refl, sym, ap, ◌∙◌}
use Prim.Native.Nat.{ℕ}
use lib.Dec.{T}
use lib.Ieee.{Float, fits, binary64}
use lib.Ieee.Scale.{finite}
use lib.Ieee.Fits.{add-fits}
use lib.Ieee.Bits.{of_bits-fits}
use Rattle.base.specs.declared.Refusal.{Refusal}
use Rattle.std.specs.Prelude.{Result, Ok, Err, Option, Some, None}
use Rattle.base.specs.Choice.{if◌then◌otherwise◌, ◌=?◌}
use Rattle.base.specs.Limits.{is_moment, is_dut}
use Rattle.hour.specs.Hour.{is_rule}
use Rattle.state.specs.State.{used, looked_up, coefficients_allowed, terms_allowed, finite_vector, finite_state, coefficient_allowed, earth_allowed, setting_allowed, coefficient_of, centre_allowed}
use Rattle.state.specs.declared.Vector.{Vector}
use Rattle.state.specs.declared.State.{State}
use Rattle.state.specs.declared.Setting.{Setting}
use Rattle.book.specs.Passes.{passes}
use Rattle.book.specs.Series.{series, place}
use Rattle.book.specs.Lookup.{lookup}
use Rattle.book.specs.Position.{body_at, place_or6, finite_place, finite_velocity}
use Rattle.book_series.specs.declared.Place.{Place}
use Rattle.book.specs.declared.Motion.{Motion}
use Rattle.gravity.specs.Pull.{minus, sound}
use Rattle.gravity.specs.Acceleration.{all_sound, Body, Sky, Listed, standing, nowhere, at_rest, stands, seen, sky_of, sky, others}
use Rattle.gravity.specs.Acceleration.{place_of, rule, view_from, seen_then, acceleration_at, acceleration_answer}
use Rattle.gravity.proofs.SoFar.{from_centre}
use Rattle.base.specs.Checks.{Checked, require, ◌before◌}
use Rattle.state_checks.specs.Common.{common_checks}
use Rattle.run_target.specs.Target.{target_checks}
use Rattle.run_checks.specs.Start.{inputs_checks, start_checks}
use Rattle.gravity_stored.specs.Injection.{stored_check}
use Rattle.base.proofs.Bools.{left, right}
use Rattle.run_unchanged.specs.Acceleration.{rule_before, without_terms, bodies_before, acceleration_before, answer_before, start_before}
use Rattle.run_unchanged.proofs.LessZero.{less_zero}

-- ---- a position in a book is a float of 64 bits, and minus zero it is itself

series_fits : (w : Float) (cs : List Float) → T (fits binary64 (series w cs))
unfolding series
series_fits w [] = of_bits-fits binary64 0
series_fits w (c ∷ cs) = add-fits binary64 _ _

abbrev Fits : Place → Type 0
Fits p = T (fits binary64 p.x) × T (fits binary64 p.y) × T (fits binary64 p.z)

place_fits : (b : List ℕ) (i t : ℕ) → Fits (place b i t)
unfolding place
place_fits b i t = (series_fits _ _, series_fits _ _, series_fits _ _)

itself : (p : Place) → Fits p → minus (standing p) nowhere ≡ standing p
itself p f = λ i. record { x = less_zero p.x f.0 i; y = less_zero p.y f.1 i; z = less_zero p.z f.2 i }

abbrev FitsAt : Result Motion Refusal → Type 0
FitsAt (Ok M) = Fits M.place
FitsAt (Err k) = Unit {0}

answer_fits : (b : List ℕ) (number t : ℕ) → FitsAt (body_at b number t)
unfolding body_at
answer_fits b number t = by (lookup b number t)
  where
    by : (l : Option ℕ) → FitsAt (place_or6 b t l)
    by None = tt
    by (Some i) = go (finite_place (place b i t)) (finite_velocity (Rattle.book.specs.Series.velocity b i t))
      where
        go : (a c : Bool)
            → FitsAt (if a then (if c then Ok (record { place = place b i t; velocity = Rattle.book.specs.Series.velocity b i t }) otherwise Err Refusal.NotFinite) otherwise Err Refusal.NotFinite)
        go true true = place_fits b i t
        go true false = tt
        go false c = tt

-- ---- seen from the Earth every body has its old position

one_more : (body : Listed) (p : Result Motion Refusal) (later : Sky) → (body.number =? 1) ≡ false → used body.m ≡ true → FitsAt p
    → from_centre 1 nowhere later ≡ later → from_centre 1 nowhere (seen body p later) ≡ seen body p later
one_more body (Err k) later far u f e = refl
one_more body (Ok M) (Err k) far u f e = refl
one_more body (Ok M) (Ok bs) far u f e =
    let rest : others 1 nowhere bs ≡ bs = cc in
    rw (far, u)
    (λ i. Ok (record { number = body.number; m = body.m; R = itself M.place f i } ∷ rest i))

-- what is looked up and not lit pulls
pulls : (u lit : Bool) → lit ≡ false → (u || lit) ≡ true → u ≡ true
pulls true lit dark e = refl
pulls false lit dark e = sym dark ∙ e

by_list_lem : (b : List ℕ) (t : ℕ) (body : Listed) (rest : List Listed) → (body.number =? 1) ≡ false → body.for_light ≡ false
    → from_centre 1 nowhere (sky_of b t rest) ≡ sky_of b t rest → from_centre 1 nowhere (sky_of b t (body ∷ rest)) ≡ sky_of b t (body ∷ rest)
by_list_lem b t body rest far dark e = go (looked_up body.m body.for_light) refl
  where
    go : (u : Bool) → looked_up body.m body.for_light ≡ u
        → from_centre 1 nowhere (if u then seen body (stands b body.number t) (sky_of b t rest) otherwise sky_of b t rest)
        ≡ (if u then seen body (stands b body.number t) (sky_of b t rest) otherwise sky_of b t rest)
    go true u =
        rw far (one_more body (body_at b body.number t) (sky_of b t rest) far (pulls (used body.m) body.for_light dark u) (answer_fits b body.number t) e)
    go false u = e

abbrev AllFar : List Listed → Type 0
AllFar [] = Unit {0}
AllFar (body ∷ rest) = ((body.number =? 1) ≡ false) × (body.for_light ≡ false) × AllFar rest

by_all : (b : List ℕ) (t : ℕ) (bodies : List Listed) → AllFar bodies → from_centre 1 nowhere (sky_of b t bodies) ≡ sky_of b t bodies
by_all b t [] far = refl
by_all b t (body ∷ rest) far = by_list_lem b t body rest far.0 far.1 (by_all b t rest far.2)

-- the Earth itself is left out
left_out : (body : Listed) (M : Motion) (later : Sky) → (body.number =? 1) ≡ true → from_centre 1 nowhere (seen body (Ok M) later) ≡ from_centre 1 nowhere later
left_out body M (Ok bs) near = rw near
left_out body M (Err k) near = refl

module _ (b : List ℕ) (s : Setting) (t : ℕ) where
  as_before : from_centre 1 nowhere (sky_of b t (bodies_before s)) ≡ sky_of b t (bodies_before s)
  as_before = by_all b t (bodies_before s) (refl, refl, (refl, refl, (refl, refl, (refl, refl, (refl, refl, tt)))))

  sky_before : used s.k ≡ false → from_centre 1 nowhere (sky b s t) ≡ sky_of b t (bodies_before s)
  unfolding sky
  sky_before dark = rw dark (go (used s.earth))
    where
      go : (u : Bool)
          → from_centre 1 nowhere
          (if u || false then seen (record { number = 1; m = s.earth; for_light = false }) (stands b 1 t) (sky_of b t (bodies_before s)) otherwise sky_of b t (bodies_before s))
          ≡ sky_of b t (bodies_before s)
      go true = left_out (record { number = 1; m = s.earth; for_light = false }) at_rest (sky_of b t (bodies_before s)) refl ∙ as_before
      go false = as_before

-- ---- J and K zero: an old setting

module _ (s : Setting) (flat : used s.j ≡ false) (dark : used s.k ≡ false) where
  no_terms : (c : ℕ) (C sun P : Vector) (bodies : Sky)
      → seen_then (λ bodies. rule s (view_from s c C sun bodies) P) bodies ≡ seen_then (λ bodies. rule_before (coefficient_of s c) P (others c C bodies)) bodies
  no_terms c C sun P (Ok bodies) = rw (flat, dark, and-true (sound P && all_sound P (others c C bodies)))
  no_terms c C sun P (Err k) = refl

  from_centre_lem : (f : List Body → Result Vector Refusal) (c : ℕ) (C : Vector) (bodies : Sky) → seen_then (λ bodies. f (others c C bodies)) bodies ≡ seen_then f (from_centre c C bodies)
  from_centre_lem f c C (Ok bodies) = refl
  from_centre_lem f c C (Err k) = refl

  -- about any centre the rule is what it was before R-7
  pub switched_off : (b : List ℕ) (c t : ℕ) (P : Vector) → acceleration_at b s c t P ≡ without_terms b s c t P
  unfolding acceleration_at without_terms
  switched_off b c t P = no_terms c (place_of (stands b c t)) (place_of (stands b 3 t)) P (sky b s t)

  -- and about the Earth what it was before R-6
  pub about_the_earth : (b : List ℕ) (t : ℕ) (P : Vector) → acceleration_at b s 1 t P ≡ acceleration_before b s t P
  unfolding without_terms acceleration_before coefficient_of
  about_the_earth b t P =
      let old = rule_before s.earth P in
      switched_off b 1 t P ∙ from_centre_lem old 1 nowhere (sky b s t) ∙ ap (seen_then old) (sky_before b s t dark)

-- ---- the calls

-- a setting that is allowed has the Earth as a centre
earth_used : (s : Setting) → setting_allowed s ≡ true → centre_allowed s 1 ≡ true
unfolding setting_allowed coefficients_allowed centre_allowed coefficient_of
earth_used s e =
    let A = earth_allowed s.earth in
    let B = A && coefficient_allowed s.moon in
    let C = B && coefficient_allowed s.sun in
    let D = C && coefficient_allowed s.venus in
    let E = D && coefficient_allowed s.mars in
    let F = coefficients_allowed s in
    let G = F && terms_allowed s in
    right (finite s.earth) (used s.earth)
    (left A (coefficient_allowed s.moon)
    (left B (coefficient_allowed s.sun)
    (left C (coefficient_allowed s.venus)
    (left D (coefficient_allowed s.mars)
    (left E (coefficient_allowed s.jupiter) (left F (terms_allowed s) (left G (is_dut s.dut) (left (G && is_dut s.dut) (is_rule s.rule) e))))))))

-- so 14 never comes about the Earth
no_fourteen : {A : Type 0} (s : Setting) (book timed finite : Bool) (x : Result A Refusal)
    → ((require book Refusal.Book before require (setting_allowed s) Refusal.Setting before require (centre_allowed s 1) Refusal.Centre before require timed Refusal.Moment before require finite Refusal.NotFinite) before x)
    ≡ (require book Refusal.Book before require (setting_allowed s) Refusal.Setting before require timed Refusal.Moment before require finite Refusal.NotFinite before x)
no_fourteen s book timed finite x = go book (setting_allowed s) refl timed finite
  where
    go : (book set : Bool) → setting_allowed s ≡ set → (timed finite : Bool)
        → ((require book Refusal.Book before require set Refusal.Setting before require (centre_allowed s 1) Refusal.Centre before require timed Refusal.Moment before require finite Refusal.NotFinite) before x)
        ≡ (require book Refusal.Book before require set Refusal.Setting before require timed Refusal.Moment before require finite Refusal.NotFinite before x)
    go false set e timed finite = refl
    go true false e timed finite = refl
    go true true e false finite = rw (earth_used s e)
    go true true e true false = rw (earth_used s e)
    go true true e true true = rw (earth_used s e)

pub answer_as_before : (b : List ℕ) (s : Setting) (t : ℕ) (P : Vector) → used s.j ≡ false → used s.k ≡ false
    → acceleration_answer b s 1 t P ≡ answer_before b s t P
unfolding acceleration_answer common_checks answer_before
answer_as_before b s t P flat dark =
    no_fourteen s (passes b) (is_moment t) (finite_vector P) (acceleration_at b s 1 t P)
    ∙ ap
    (λ (x : Result Vector Refusal). require (passes b) Refusal.Book before require (setting_allowed s) Refusal.Setting before require (is_moment t) Refusal.Moment before require (finite_vector P) Refusal.NotFinite before x)
    (about_the_earth s flat dark b t P)

-- two moments that give the same refusal, checked together or one after the other
both_moments : (p q : Bool) (k : Refusal) (rest : Checked) → (require (p && q) k before rest) ≡ (require p k before require q k before rest)
both_moments true q k rest = refl
both_moments false q k rest = refl

-- a state about the Earth that is in order starts as it did
module _ (b : List ℕ) (setting : Setting) (s : State) (h : ℕ) (earth : s.centre ≡ 1) where
  pub start_as_before : stored_check b setting s ≡ Ok tt → (target : ℕ) → start_checks b setting s h target ≡ start_before b setting s h target
  unfolding start_checks inputs_checks common_checks target_checks start_before
  start_as_before ordered target =
      rw (ordered, earth)
      (no_fourteen setting (passes b) (is_moment s.moment && is_moment target) (finite_state s) (target_checks s.moment h target)
      ∙ ap (λ (x : Checked). require (passes b) Refusal.Book before require (setting_allowed setting) Refusal.Setting before x)
      (both_moments (is_moment s.moment) (is_moment target) Refusal.Moment _))
