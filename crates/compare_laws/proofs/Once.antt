-- "Each difference is reported once and nothing else is", "in moment order": what is reported of a moment is what the states of both
-- listings at that moment say, and the moments do not fall. Assumes nothing.
use Prim.Native.Nat.{ℕ, ◌+◌, ◌<◌, ◌≤◌}
use mathlib.Core.Bool.{Bool, true, false}
use mathlib.Core.List.{List, [], ◌∷◌, ◌++◌, append-nil, append_assoc}
use mathlib.Core.Path.{◌≡◌, refl, sym, ap, ap₂, ◌∙◌}
use native.Mathlib.Omega.{arith}
use borrow.Author.Tests.{lt-ltb, le-ltb, ltb-true, ltb-false, eq-eqb, ne_eqb, eqb-true, eqb-false}
use lib.Dec.{ltb, eqb}
use Rattle.std.specs.Prelude.{None}
use Rattle.base.specs.Choice.{if◌then◌otherwise◌}
use Rattle.listing_scan.specs.declared.Row.{Row}
use Rattle.listing_scan.specs.declared.Line.{Line}
use Rattle.listing_scan.specs.declared.Line.TheVariants as line
use Rattle.listing_read.specs.declared.Place.TheVariants.{Top, First, After, Done}
use Rattle.listing_read.specs.Form.{kinds_of, refused_from, form_refusal, rows_of, rows_in}
use Rattle.compare_report.specs.declared.Component.{Component}
use Rattle.compare_report.specs.declared.Component.TheVariants.{X, Y, Z, VX, VY, VZ}
use Rattle.compare_report.specs.Report.{Difference, only, differs, component, at_one, parted}
use Rattle.compare_steps.specs.Steps.{steps}
use Rattle.compare_report.specs.Turns.{differences_at}
use Rattle.compare_laws.specs.Laws.{Rising, state_of, moment_of, reported_at, InOrder}

-- ---- cases

by_equal : (t : Bool) (a b : ℕ) {P : Type 0} → eqb a b ≡ t → (a ≡ b → P) → ((a ≡ b → ⊥) → P) → P
by_equal true a b e here other = here (eqb-true a b e)
by_equal false a b e here other = other (eqb-false a b e)

is_equal : (a b : ℕ) {P : Type 0} → (a ≡ b → P) → ((a ≡ b → ⊥) → P) → P
is_equal a b here other = by_equal (eqb a b) a b refl here other

by_less : (t : Bool) (a b : ℕ) {P : Type 0} → ltb a b ≡ t → (a < b → P) → (b ≤ a → P) → P
by_less true a b e here other = here (ltb-true a b e)
by_less false a b e here other = other (ltb-false a b e)

is_less : (a b : ℕ) {P : Type 0} → (a < b → P) → (b ≤ a → P) → P
is_less a b here other = by_less (ltb a b) a b refl here other

-- ---- states before the first of a listing

none_before : (t low : ℕ) (rs : List Row) → Rising low rs → t < low → state_of t rs ≡ None
none_before t low [] h b = refl
none_before t low (r ∷ rs) h b =
    let l = h.0 in
    rw (ne_eqb r.moment t (λ e. omega arith)) (none_before t (r.moment + 1) rs h.1 (omega arith))

-- ---- what is reported of one moment

reported_append : (t : ℕ) (ds es : List Difference) → reported_at t (ds ++ es) ≡ reported_at t ds ++ reported_at t es
reported_append t [] es = refl
reported_append t (d ∷ ds) es = go (eqb (moment_of d) t) (reported_append t ds es)
  where
    go : (x : Bool) → reported_at t (ds ++ es) ≡ reported_at t ds ++ reported_at t es
        → (if x then d ∷ reported_at t (ds ++ es) otherwise reported_at t (ds ++ es)) ≡ (if x then d ∷ reported_at t ds otherwise reported_at t ds) ++ reported_at t es
    go true later = ap (λ (l : List Difference). d ∷ l) later
    go false later = later

module _ (t m : ℕ) where
  component_here : m ≡ t → (k : Component) (a b : ℕ) → reported_at t (component m k a b) ≡ component m k a b
  component_here e k a b = go (eqb a b)
    where
      go : (x : Bool) → reported_at t (if x then [] otherwise differs m k (steps a b) ∷ []) ≡ (if x then [] otherwise differs m k (steps a b) ∷ [])
      go true = refl
      go false = rw (eq-eqb m t e)

  component_other : (m ≡ t → ⊥) → (k : Component) (a b : ℕ) → reported_at t (component m k a b) ≡ []
  component_other n k a b = go (eqb a b)
    where
      go : (x : Bool) → reported_at t (if x then [] otherwise differs m k (steps a b) ∷ []) ≡ []
      go true = refl
      go false = rw (ne_eqb m t n)

six : (t : ℕ) (a b c d e f : List Difference) → reported_at t (a ++ b ++ c ++ d ++ e ++ f) ≡ reported_at t a ++ reported_at t b ++ reported_at t c ++ reported_at t d ++ reported_at t e ++ reported_at t f
six t a b c d e f = rw (reported_append t (a ++ b ++ c ++ d ++ e) f, reported_append t (a ++ b ++ c ++ d) e, reported_append t (a ++ b ++ c) d, reported_append t (a ++ b) c, reported_append t a b)

six_are : (t : ℕ) (a b c d e f a' b' c' d' e' f' : List Difference) → reported_at t a ≡ a' → reported_at t b ≡ b' → reported_at t c ≡ c' → reported_at t d ≡ d' → reported_at t e ≡ e' → reported_at t f ≡ f'
    → reported_at t (a ++ b ++ c ++ d ++ e ++ f) ≡ a' ++ b' ++ c' ++ d' ++ e' ++ f'
six_are t a b c d e f a' b' c' d' e' f' p q r s u v = six t a b c d e f ∙ rw (p, q, r, s, u, v)

module _ (t : ℕ) (r s : Row) where
  one_here : r.moment ≡ t → reported_at t (at_one r s) ≡ at_one r s
  unfolding at_one
  one_here e =
      let k = component_here t r.moment e in
      six_are t (component r.moment X r.x s.x) (component r.moment Y r.y s.y) (component r.moment Z r.z s.z)
      (component r.moment VX r.vx s.vx) (component r.moment VY r.vy s.vy) (component r.moment VZ r.vz s.vz) (component
      r.moment X r.x s.x) (component r.moment Y r.y s.y) (component r.moment Z r.z s.z) (component r.moment VX r.vx
      s.vx) (component r.moment VY r.vy s.vy) (component r.moment VZ r.vz s.vz) (k X r.x s.x) (k Y r.y s.y) (k Z
      r.z s.z) (k VX r.vx s.vx) (k VY r.vy s.vy) (k VZ r.vz s.vz)

  one_other : (r.moment ≡ t → ⊥) → reported_at t (at_one r s) ≡ []
  unfolding at_one
  one_other n =
      let k = component_other t r.moment n in
      six_are t (component r.moment X r.x s.x) (component r.moment Y r.y s.y) (component r.moment Z r.z s.z)
      (component r.moment VX r.vx s.vx) (component r.moment VY r.vy s.vy) (component r.moment VZ r.vz
      s.vz) [] [] [] [] [] [] (k X r.x s.x) (k Y r.y s.y) (k Z r.z s.z) (k VX r.vx s.vx) (k VY r.vy s.vy) (k VZ r.vz s.vz)

-- ---- what is reported of a moment is what both listings have of it

abbrev Exact : ℕ → List Row → List Row → Type 0
Exact t rs ss = reported_at t (parted rs ss) ≡ differences_at (state_of t rs) (state_of t ss)

first_only : (t : ℕ) (r : Row) (rs ss : List Row) → Rising r.moment (r ∷ rs) → Rising (r.moment + 1) ss → Exact t rs ss
    → reported_at t (only 1 r.moment ∷ parted rs ss) ≡ differences_at (state_of t (r ∷ rs)) (state_of t ss)
first_only t r rs ss h g later =
    is_equal r.moment t
    (λ e.
    let a : state_of t rs ≡ None = none_before t (r.moment + 1) rs h.1 (omega arith) in
    let b : state_of t ss ≡ None = none_before t (r.moment + 1) ss g (omega arith) in
    let none : reported_at t (parted rs ss) ≡ [] = later ∙ ap₂ differences_at a b in
    rw (eq-eqb r.moment t e, none, b))
    (λ n. rw (ne_eqb r.moment t n) later)

second_only : (t : ℕ) (s : Row) (rs ss : List Row) → Rising s.moment (s ∷ ss) → Rising (s.moment + 1) rs → Exact t rs ss
    → reported_at t (only 2 s.moment ∷ parted rs ss) ≡ differences_at (state_of t rs) (state_of t (s ∷ ss))
second_only t s rs ss h g later =
    is_equal s.moment t
    (λ e.
    let b : state_of t ss ≡ None = none_before t (s.moment + 1) ss h.1 (omega arith) in
    let a : state_of t rs ≡ None = none_before t (s.moment + 1) rs g (omega arith) in
    let none : reported_at t (parted rs ss) ≡ [] = later ∙ ap₂ differences_at a b in
    rw (eq-eqb s.moment t e, none, a))
    (λ n. rw (ne_eqb s.moment t n) later)

in_both : (t : ℕ) (r s : Row) (rs ss : List Row) → r.moment ≡ s.moment → Rising r.moment (r ∷ rs) → Rising s.moment (s ∷ ss) → Exact t rs ss
    → reported_at t (at_one r s ++ parted rs ss) ≡ differences_at (state_of t (r ∷ rs)) (state_of t (s ∷ ss))
in_both t r s rs ss q h g later =
    reported_append t (at_one r s) (parted rs ss)
    ∙ is_equal r.moment t
    (λ e.
    let a : state_of t rs ≡ None = none_before t (r.moment + 1) rs h.1 (omega arith) in
    let b : state_of t ss ≡ None = none_before t (s.moment + 1) ss g.1 (omega arith) in
    let none : reported_at t (parted rs ss) ≡ [] = later ∙ ap₂ differences_at a b in
    rw (one_here t r s e, none, append-nil (at_one r s), eq-eqb r.moment t e, eq-eqb s.moment t (sym q ∙ e))
    (rw (le-ltb r.moment s.moment (omega arith), le-ltb s.moment r.moment (omega arith))
    ))
    (λ n. rw (one_other t r s n, ne_eqb r.moment t n, ne_eqb s.moment t (λ e. n (q ∙ e))) later)

from_here : (low : ℕ) (r : Row) (rs : List Row) → Rising low (r ∷ rs) → Rising r.moment (r ∷ rs)
from_here low r rs h = (omega arith, h.1)

pub exactly : (t : ℕ) (rs ss : List Row) (low high : ℕ) → Rising low rs → Rising high ss → reported_at t (parted rs ss) ≡ differences_at (state_of t rs) (state_of t ss)
unfolding parted
exactly t [] [] low high h g = refl
exactly t (r ∷ rs) [] low high h g = first_only t r rs [] (from_here low r rs h) (omega arith) (exactly t rs [] (r.moment + 1) high h.1 g)
exactly t [] (s ∷ ss) low high h g = second_only t s [] ss (from_here high s ss g) (omega arith) (exactly t [] ss low (s.moment + 1) h g.1)
exactly t (r ∷ rs) (s ∷ ss) low high h g =
    is_less r.moment s.moment
    (λ l. rw (lt-ltb r.moment s.moment l) (first_only t r rs (s ∷ ss) (from_here low r rs h) (omega arith, g.1) (exactly t rs (s ∷ ss) (r.moment + 1) high h.1 g)))
    (λ l.
    is_less s.moment r.moment
    (λ k. rw (le-ltb r.moment s.moment l, lt-ltb s.moment r.moment k)
    (second_only t s (r ∷ rs) ss (from_here high s ss g) (omega arith, h.1) (exactly t (r ∷ rs) ss low (s.moment + 1) h g.1)))
    (λ k. rw (le-ltb r.moment s.moment l, le-ltb s.moment r.moment k)
    (in_both t r s rs ss (omega arith) (from_here low r rs h) (from_here high s ss g) (exactly t rs ss (r.moment + 1) (s.moment + 1) h.1 g.1))))

-- ---- in moment order

in_order_from : (low high : ℕ) (ds : List Difference) → low ≤ high → InOrder high ds → InOrder low ds
in_order_from low high [] h o = omega arith
in_order_from low high (d ∷ ds) h o = let l = o.0 in (omega arith, o.1)

component_order : (m : ℕ) (k : Component) (a b : ℕ) (ds : List Difference) → InOrder m ds → InOrder m (component m k a b ++ ds)
component_order m k a b ds o = go (eqb a b)
  where
    go : (x : Bool) → InOrder m ((if x then [] otherwise differs m k (steps a b) ∷ []) ++ ds)
    go true = o
    go false = (omega arith, o)

one_order : (r s : Row) (ds : List Difference) → InOrder r.moment ds → InOrder r.moment (at_one r s ++ ds)
unfolding at_one
one_order r s ds o =
    let m = r.moment in
    let f = component_order m VZ r.vz s.vz ds o in
    let e = component_order m VY r.vy s.vy _ f in
    let d = component_order m VX r.vx s.vx _ e in
    let c = component_order m Z r.z s.z _ d in
    let b = component_order m Y r.y s.y _ c in
    let a = component_order m X r.x s.x _ b in
    rw (append_assoc, append_assoc, append_assoc, append_assoc, append_assoc) a

pub in_order : (rs ss : List Row) (low : ℕ) → Rising low rs → Rising low ss → InOrder low (parted rs ss)
unfolding parted
in_order [] [] low h g = omega arith
in_order (r ∷ rs) [] low h g = (h.0, in_order_from r.moment (r.moment + 1) (parted rs []) (omega arith) (in_order rs [] (r.moment + 1) h.1 (omega arith)))
in_order [] (s ∷ ss) low h g = (g.0, in_order_from s.moment (s.moment + 1) (parted [] ss) (omega arith) (in_order [] ss (s.moment + 1) (omega arith) g.1))
in_order (r ∷ rs) (s ∷ ss) low h g =
    is_less r.moment s.moment
    (λ l. rw (lt-ltb r.moment s.moment l) (h.0, in_order_from r.moment (r.moment + 1) (parted rs (s ∷ ss)) (omega arith) (in_order rs (s ∷ ss) (r.moment + 1) h.1 (omega arith, g.1))))
    (λ l.
    is_less s.moment r.moment
    (λ k. rw (le-ltb r.moment s.moment l, lt-ltb s.moment r.moment k)
    (g.0, in_order_from s.moment (s.moment + 1) (parted (r ∷ rs) ss) (omega arith) (in_order (r ∷ rs) ss (s.moment + 1) (omega arith, h.1) g.1)))
    (λ k.
    let e : s.moment ≡ r.moment = omega arith in
    rw (le-ltb r.moment s.moment l, le-ltb s.moment r.moment k)
    (in_order_from low r.moment (at_one r s ++ parted rs ss) h.0
    (one_order r s (parted rs ss) (in_order_from r.moment (r.moment + 1) (parted rs ss) (omega arith) (in_order rs ss (r.moment + 1) h.1 (rw e at g.1)))))))

-- ---- the states of a listing of the form rise

done_rows : (n : ℕ) (ls : List Line) → 1 ≤ n → refused_from Done n ls ≡ 0 → rows_of ls ≡ []
unfolding refused_from rows_of
done_rows n [] some e = refl
done_rows n (l ∷ ls) some e = absurd (omega arith)

after_rows : (ls : List Line) (t n : ℕ) → 1 ≤ n → refused_from (After t) n ls ≡ 0 → Rising (t + 1) (rows_of ls)
unfolding refused_from rows_of
after_rows [] t n some e = absurd (omega arith)
after_rows (line.State r ∷ ls) t n some e = go (ltb t r.moment) refl e (after_rows ls)
  where
    go : (x : Bool) → ltb t r.moment ≡ x → refused_from (After t) n (line.State r ∷ ls) ≡ 0
        → ((t n : ℕ) → 1 ≤ n → refused_from (After t) n ls ≡ 0 → Rising (t + 1) (rows_of ls)) → Rising (t + 1) (r ∷ rows_of ls)
    go true q e later = (omega (arith, ltb-true t r.moment q), later r.moment (n + 1) (omega arith) (rw q at e))
    go false q e later = let z : n ≡ 0 = rw q at e in absurd (omega arith)
after_rows (line.Outcome ∷ ls) t n some e = rw (done_rows (n + 1) ls (omega arith) e) (omega arith)
after_rows (line.Header ∷ ls) t n some e = absurd (omega arith)
after_rows (line.Lone ∷ ls) t n some e = absurd (omega arith)
after_rows (line.Bad ∷ ls) t n some e = absurd (omega arith)

first_rows : (ls : List Line) (n : ℕ) → 1 ≤ n → refused_from First n ls ≡ 0 → Rising 0 (rows_of ls)
unfolding refused_from rows_of
first_rows [] n some e = absurd (omega arith)
first_rows (line.State r ∷ ls) n some e = (omega arith, after_rows ls r.moment (n + 1) (omega arith) e)
first_rows (line.Outcome ∷ ls) n some e = absurd (omega arith)
first_rows (line.Header ∷ ls) n some e = absurd (omega arith)
first_rows (line.Lone ∷ ls) n some e = absurd (omega arith)
first_rows (line.Bad ∷ ls) n some e = absurd (omega arith)

top_rows : (ls : List Line) → refused_from Top 1 ls ≡ 0 → Rising 0 (rows_of ls)
unfolding refused_from rows_of
top_rows [] e = absurd (omega arith)
top_rows (line.Header ∷ ls) e = first_rows ls 2 (omega arith) e
top_rows (line.Lone ∷ ls) e = rw (done_rows 2 ls (omega arith) e) (omega arith)
top_rows (line.State r ∷ ls) e = absurd (omega arith)
top_rows (line.Outcome ∷ ls) e = absurd (omega arith)
top_rows (line.Bad ∷ ls) e = absurd (omega arith)

pub rising : (text : List ℕ) → form_refusal text ≡ 0 → Rising 0 (rows_in text)
unfolding form_refusal
rising text e = top_rows (kinds_of text) e

-- ---- of two listings of the form

module _ (a b : List ℕ) (first : form_refusal a ≡ 0) (second : form_refusal b ≡ 0) where
  -- "each moment found in one only, and for each moment in both, every component whose bits differ"; "once and nothing else"
  pub each_once : (t : ℕ) → reported_at t (parted (rows_in a) (rows_in b)) ≡ differences_at (state_of t (rows_in a)) (state_of t (rows_in b))
  each_once t = exactly t (rows_in a) (rows_in b) 0 0 (rising a first) (rising b second)

  -- "in moment order"
  pub moments_in_order : InOrder 0 (parted (rows_in a) (rows_in b))
  moments_in_order = in_order (rows_in a) (rows_in b) 0 (rising a first) (rising b second)
