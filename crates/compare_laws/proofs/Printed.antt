-- All that strip and strip144 print is of the form. Assumes nothing.
use Prim.Native.Nat.{ℕ, zero, suc, ◌+◌, ◌*◌, ◌/◌, ◌<◌, ◌≤◌}
use mathlib.Core.Bool.{Bool, true, false, ◌&&◌}
use mathlib.Core.List.{List, [], ◌∷◌, ◌++◌, map, append_assoc, append-nil}
use mathlib.Core.Path.{◌≡◌, refl, sym, ap, subst, ◌∙◌}
use native.Mathlib.Nat.{suc-mul}
use native.Mathlib.Omega.{arith}
use borrow.Author.Tests.{lt-ltb, ltb-true, eqb-true}
use lib.Dec.{T, ltb, eqb}
use lib.ListN.{length, drop}
use lib.Ieee.{Float, binary64, fits, of_bits}
use lib.Ieee.Bits.{of_bits-fits}
use lib.Ieee.Fits.{add-fits}
use lib.Ieee.Scale.{finite}
use Rattle.base.specs.Refusals.{number_of}
use Rattle.base.specs.Checks.{Checked}
use Rattle.base.specs.declared.Refusal.{Refusal}
use Rattle.std.specs.Prelude.{Result, Ok, Err}
use Rattle.base.specs.Choice.{if◌then◌otherwise◌}
use Rattle.base.specs.Limits.{end_of_time}
use Rattle.state.specs.State.{position, velocity, acceleration, injection_at, carrying, bare, finite_vector, finite_state}
use Rattle.state.specs.declared.Vector.{Vector}
use Rattle.state.specs.declared.State.{State}
use Rattle.state.specs.declared.Injection.{Injection}
use Rattle.state.specs.declared.Setting.{Setting}
use Rattle.gravity.specs.Acceleration.{acceleration_at}
use Rattle.gravity_stored.specs.Injection.{kept_by, launched}
use Rattle.gravity_stored.proofs.Launched.{launched_bare}
use Rattle.run_checks.specs.Start.{start_checks}
use Rattle.run_checks.proofs.Passed.{passed}
use Rattle.run.specs.Step.{Moved, and_then, arrive, along, step_h, half, sixth, keeping, step}
use Rattle.run.specs.Stages.{velocity2, velocity3, lastly, stage3, stage4}
use Rattle.run.proofs.OneStep.{done}
use Rattle.run.proofs.Start.{may_walk}
use Rattle.listing_words.specs.Words.{strip_word, arrived_word, refused_word}
use Rattle.listing_write.specs.Lines.{header_line, state_line, arrived_line, refused_line, lone_refusal}
use Rattle.strip_order.specs.Order.{order_length, order_of, read_order}
use Rattle.listing_write.specs.Strip.{steps_to, order_text, strip_text}
use Rattle.listing_write.specs.Course.{after_step, course_text}
use Rattle.strip_order.specs.declared.Form.{Form}
use Rattle.strip_order.specs.declared.Order.{Order}
use Rattle.listing_write.proofs.Courses.{starts}
use Rattle.listing_write.proofs.Whole.{order_course}
use Rattle.text_write.specs.Numerals.{decimal_of}
use Rattle.listing_scan.specs.declared.Line.{Line}
use Rattle.listing_scan.specs.declared.Line.TheVariants as line
use Rattle.listing_read.specs.declared.Place.TheVariants.{Top, First, After, Off}
use Rattle.listing_scan.specs.Line.{header_text, arrived_text, refused_text, lone_text}
use Rattle.listing_scan.specs.Reading.{kind_of}
use Rattle.listing_read.specs.Form.{lines_of, kinds_of, refused_from, form_refusal}
use Rattle.listing_laws.proofs.Texts.{header_kind, arrived_kind, lone_kind, refused_kind}
use Rattle.compare_laws.proofs.Texts.{Plain, plain_append, feed_lines}
use Rattle.compare_laws.proofs.Lines.{Fine, FineVector, FineState, row_for, state_text}
use Rattle.compare_laws.proofs.Lines.{state_line_kind, space_plain, state_plain, strip_plain, arrived_plain, refused_plain, numbered_plain}

-- ---- floats of a state that a step leads to

pub record Fits (s : Injection) : Type 0 where
  pub x : T (fits binary64 s.x)
  pub y : T (fits binary64 s.y)
  pub z : T (fits binary64 s.z)
  pub vx : T (fits binary64 s.vx)
  pub vy : T (fits binary64 s.vy)
  pub vz : T (fits binary64 s.vz)

kept_fits : (i : Injection) (q : Result Vector Refusal) (next : State) → Fits i → kept_by i q ≡ Ok next → Fits (bare next)
kept_fits i (Ok a) next f e = let is : carrying i a ≡ next = cc in subst (λ (s : State). Fits (bare s)) is f
kept_fits i (Err k) next f e = let z : ◌≡◌ {A = ℕ} 0 1 = cc in absurd (omega arith)

arrived_fits : (acc : ℕ → Vector → Result Vector Refusal) (t o : ℕ) (b : Vector) (f : Float) (d c : Vector) (g : Float) (e : Vector) (next : State)
    → arrive (keeping acc) t o (along b f d) (along c g e) ≡ Ok next → Fits (bare next)
unfolding along
arrived_fits acc t o b f d c g e next = go (finite_vector (along b f d) && finite_vector (along c g e))
  where
    go : (ok : Bool) → (if ok then keeping acc (injection_at t o (along b f d) (along c g e)) otherwise Err Refusal.NotFinite) ≡ Ok next → Fits (bare next)
    go true q =
        kept_fits (injection_at t o (along b f d) (along c g e)) (acc t (along b f d)) next
        (record { x = add-fits binary64 _ _; y = add-fits binary64 _ _; z = add-fits binary64 _ _; vx = add-fits binary64 _ _; vy = add-fits binary64 _ _; vz = add-fits binary64 _ _ })
        q
    go false q = let z : ◌≡◌ {A = ℕ} 0 1 = cc in absurd (omega arith)

peel : (q : Result Vector Refusal) (rest : Vector → Moved) (next : State) → ((a : Vector) → rest a ≡ Ok next → Fits (bare next)) → and_then q rest ≡ Ok next → Fits (bare next)
peel (Ok a) rest next k e = k a e
peel (Err n) rest next k e = let z : ◌≡◌ {A = ℕ} 0 1 = cc in absurd (omega arith)

step_fits : (b : List ℕ) (setting : Setting) (h : ℕ) (s next : State) → step b setting h s ≡ Ok next → Fits (bare next)
unfolding step
step_fits b setting h s next =
    let acc = acceleration_at b setting s.centre in
    let ends = keeping acc in
    let a1 = acceleration s in
    peel (acc (s.moment + h / 2) (along (position s) (half h) (velocity s))) (stage3 acc ends h s a1) next
    (λ a2.
    peel (acc (s.moment + h / 2) (along (position s) (half h) (velocity2 h s a1))) (stage4 acc ends h s a1 a2) next
    (λ a3.
    peel (acc (s.moment + h) (along (position s) (step_h h) (velocity3 h s a2))) (lastly ends h s a1 a2 a3) next
    (λ a4 e. arrived_fits acc (s.moment + h) s.centre (position s) (sixth h) _ (velocity s) (sixth h) _ next e)))

both_true : (p q : Bool) → (p && q) ≡ true → (p ≡ true) × (q ≡ true)
both_true true q e = (refl, e)
both_true false q e = (e, (cc))

fine_vector : (v : Vector) → finite_vector v ≡ true → T (fits binary64 v.x) → T (fits binary64 v.y) → T (fits binary64 v.z) → FineVector v
fine_vector v e x y z =
    let xy = both_true (finite v.x && finite v.y) (finite v.z) e in
    let both = both_true (finite v.x) (finite v.y) xy.0 in
    record {
      x_fine = record { is_finite = both.0; is_fit = x };
      y_fine = record { is_finite = both.1; is_fit = y };
      z_fine = record { is_finite = xy.1; is_fit = z };
    }

fine_state : (s : State) → s.moment < end_of_time → finite_state s ≡ true → Fits (bare s) → FineState s
fine_state s h e f =
    let two = both_true (finite_vector (position s)) (finite_vector (velocity s)) e in
    record {
      inside = h;
      position_fine = fine_vector (position s) two.0 f.x f.y f.z;
      velocity_fine = fine_vector (velocity s) two.1 f.vx f.vy f.vz;
    }

-- ---- line by line

kinds_line : (l rest : List ℕ) → Plain l → kinds_of (l ++ (10 ∷ []) ++ rest) ≡ kind_of l ∷ kinds_of rest
unfolding kinds_of
kinds_line l rest p = ap (λ (t : List ℕ). map kind_of (lines_of t)) (append_assoc l (10 ∷ []) rest) ∙ ap (map kind_of) (feed_lines l rest p)

kinds_none : kinds_of [] ≡ []
unfolding kinds_of lines_of
kinds_none = refl

last_kind : (l : List ℕ) → Plain l → kinds_of (l ++ (10 ∷ [])) ≡ kind_of l ∷ []
last_kind l p = ap kinds_of (sym (append-nil (l ++ (10 ∷ [])))) ∙ kinds_line l [] p ∙ ap (λ (ks : List Line). kind_of l ∷ ks) kinds_none

outcome_ends : (t n : ℕ) → refused_from (After t) n (line.Outcome ∷ []) ≡ 0
unfolding refused_from
outcome_ends t n = refl

lone_ends : refused_from Top 1 (line.Lone ∷ []) ≡ 0
unfolding refused_from
lone_ends = refl

state_on : (t n : ℕ) (s : State) (ls : List Line) → t < s.moment → refused_from (After t) n (line.State (row_for s) ∷ ls) ≡ refused_from (After s.moment) (n + 1) ls
unfolding refused_from
state_on t n s ls h = rw (lt-ltb t s.moment h)

state_first : (n : ℕ) (s : State) (ls : List Line) → refused_from First n (line.State (row_for s) ∷ ls) ≡ refused_from (After s.moment) (n + 1) ls
unfolding refused_from
state_first n s ls = refl

header_first : (ls : List Line) → refused_from Top 1 (line.Header ∷ ls) ≡ refused_from First 2 ls
unfolding refused_from
header_first ls = refl

kinds_state : (s : State) (rest : List ℕ) → FineState s → kinds_of (state_line s ++ rest) ≡ line.State (row_for s) ∷ kinds_of rest
unfolding state_line
kinds_state s rest f = kinds_line (state_text s) rest (state_plain s f) ∙ ap (λ (k : Line). k ∷ kinds_of rest) (state_line_kind s f)

kinds_arrived : (n : ℕ) → kinds_of (arrived_line n) ≡ line.Outcome ∷ []
unfolding arrived_line
kinds_arrived n = last_kind (arrived_text n) (numbered_plain arrived_word n arrived_plain) ∙ ap (λ (k : Line). k ∷ []) (arrived_kind n)

kinds_lone : (k : ℕ) → kinds_of (lone_refusal k) ≡ line.Lone ∷ []
unfolding lone_refusal
kinds_lone k = last_kind (lone_text k) (numbered_plain refused_word k refused_plain) ∙ ap (λ (l : Line). l ∷ []) (lone_kind k)

kinds_header : (h : ℕ) (rest : List ℕ) → kinds_of (header_line h ++ rest) ≡ line.Header ∷ kinds_of rest
unfolding header_line
kinds_header h rest = kinds_line (header_text h) rest (numbered_plain strip_word h strip_plain) ∙ ap (λ (k : Line). k ∷ kinds_of rest) (header_kind h)

kinds_refused : (k n : ℕ) → kinds_of (refused_line k n) ≡ line.Outcome ∷ []
unfolding refused_line
kinds_refused k n =
    let front = refused_word ++ decimal_of k in
    ap kinds_of (sym (append_assoc front (32 ∷ decimal_of n) (10 ∷ [])) ∙ ap (λ (l : List ℕ). l ++ (10 ∷ [])) (sym (append_assoc front (32 ∷ []) (decimal_of n))))
    ∙ last_kind (refused_text k n) (numbered_plain (front ++ (32 ∷ [])) n (plain_append front (32 ∷ []) (numbered_plain refused_word k refused_plain) space_plain))
    ∙ ap (λ (l : Line). l ∷ []) (refused_kind k n)

-- ---- the states of a run, and its outcome

module _ (b : List ℕ) (setting : Setting) (h : ℕ) (some : 1 ≤ h) where
  course_form : (left did n : ℕ) (s : State) → s.moment + left * h < end_of_time → refused_from (After s.moment) n (kinds_of (course_text (step b setting h) left did s)) ≡ 0
  unfolding course_text
  course_form zero did n s reach = ap (refused_from (After s.moment) n) (kinds_arrived did) ∙ outcome_ends s.moment n
  course_form (suc left) did n s reach = go (step b setting h s) refl (course_form left)
    where
      go : (m : Moved) → step b setting h s ≡ m
          → ((did n : ℕ) (s : State) → s.moment + left * h < end_of_time → refused_from (After s.moment) n (kinds_of (course_text (step b setting h) left did s)) ≡ 0)
          → refused_from (After s.moment) n (kinds_of (after_step (course_text (step b setting h) left (did + 1)) did m)) ≡ 0
      go (Err k) e later = ap (refused_from (After s.moment) n) (kinds_refused (number_of k) did) ∙ outcome_ends s.moment n
      go (Ok next) e later =
          let d = done b setting h s next e in
          let clock = d.moment in
          let long : suc left * h ≡ left * h + h = suc-mul left h in
          let f = fine_state next (omega arith) d.finite (step_fits b setting h s next e) in
          ap (refused_from (After s.moment) n) (kinds_state next (course_text (step b setting h) left (did + 1) next) f)
          ∙ state_on s.moment n next (kinds_of (course_text (step b setting h) left (did + 1) next)) (omega arith)
          ∙ later (did + 1) (n + 1) next (omega arith)

order_form : (b : List ℕ) (o : Order) → Fits o.injection → start_checks b o.setting (launched b o.setting o.injection) o.h o.target ≡ Ok tt
    → form_refusal (order_text b o) ≡ 0
unfolding form_refusal
order_form b o f e =
    let s = launched b o.setting o.injection in
    let may = may_walk b o.setting s o.h o.target e in
    let long = may.long in
    let p = passed b o.setting s o.h o.target e in
    let inside = (starts b o.setting s o.h o.target may).inside in
    let fits-there = subst Fits (sym (launched_bare b o.setting o.injection)) f in
    let fine = fine_state s (ltb-true s.moment end_of_time p.begins) p.finite fits-there in
    let course = course_text (step b o.setting o.h) (steps_to s o.h o.target) 0 s in
    ap (λ (t : List ℕ). refused_from Top 1 (kinds_of t)) (order_course b o e)
    ∙ ap (refused_from Top 1) (kinds_header o.h (state_line s ++ course) ∙ ap (λ (ls : List Line). line.Header ∷ ls) (kinds_state s course fine))
    ∙ header_first (line.State (row_for s) ∷ kinds_of course)
    ∙ state_first 2 s (kinds_of course)
    ∙ course_form b o.setting o.h (omega arith) (steps_to s o.h o.target) 0 (2 + 1) s inside

lone_form : (k : ℕ) → form_refusal (lone_refusal k) ≡ 0
unfolding form_refusal
lone_form k = ap (refused_from Top 1) (kinds_lone k) ∙ lone_ends

order_fits : (form : Form) (input : List ℕ) → Fits (order_of form input).injection
order_fits form input =
    record { x = of_bits-fits binary64 _; y = of_bits-fits binary64 _; z = of_bits-fits binary64 _; vx = of_bits-fits binary64 _; vy = of_bits-fits binary64 _; vz = of_bits-fits binary64 _ }

not_started : (b : List ℕ) (o : Order) (k : Refusal) → start_checks b o.setting (launched b o.setting o.injection) o.h o.target ≡ Err k
    → order_text b o ≡ lone_refusal (number_of k)
unfolding order_text
not_started b o k e = rw e

any_order : (b : List ℕ) (o : Order) → Fits o.injection → form_refusal (order_text b o) ≡ 0
any_order b o f = go (start_checks b o.setting (launched b o.setting o.injection) o.h o.target) refl
  where
    go : (c : Checked) → start_checks b o.setting (launched b o.setting o.injection) o.h o.target ≡ c → form_refusal (order_text b o) ≡ 0
    go (Ok tt) e = order_form b o f e
    go (Err k) e = ap form_refusal (not_started b o k e) ∙ lone_form (number_of k)

-- for every input of both programs: a lone refusal, or a header, states whose moments rise and whose components are finite, and an outcome
pub strip_of_the_form : (form : Form) (input : List ℕ) → form_refusal (strip_text form input) ≡ 0
unfolding strip_text read_order
strip_of_the_form form input = go (ltb (length input) (order_length form)) refl
  where
    go : (t : Bool) → ltb (length input) (order_length form) ≡ t → form_refusal (strip_text form input) ≡ 0
    go true e = rw e (lone_form 1)
    go false e = rw e (any_order (drop (order_length form) input) (order_of form input) (order_fits form input))
