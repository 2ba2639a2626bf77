-- The text of a strip as a whole: the portions make it up, its states are the walk's, and no input past the longest one changes it. An old
-- order is a new one with zeros. Assumes nothing.
use Prim.Native.Nat.{ℕ, zero, suc, ◌+◌, ◌-◌, ◌*◌, ◌<◌, ◌≤◌}
use mathlib.Core.Bool.{Bool, true, false, and-false}
use mathlib.Core.List.{List, ◌++◌, append_assoc}
use mathlib.Core.Path.{◌≡◌, refl, sym, ap, ◌∙◌}
use native.Mathlib.Nat.{zero-add, add-zero, suc-mul, zero-mul}
use native.Mathlib.Numerals.{add-one}
use native.Mathlib.Omega.{arith}
use borrow.Author.Tests.{le-ltb, lt-leb, ltb-true, ltb-false}
use lib.Dec.{ltb}
use lib.ListN.{length, get_or, take, drop, length-drop}
use lib.Seq.{take_all, length-take-le, drop-append-add, drop_at}
use Rattle.std.specs.Prelude.{Ok, Err}
use Rattle.state.specs.declared.State.{State}
use Rattle.book.specs.Passes.{longest_book, passes}
use Rattle.run.specs.Step.{Moved, step}
use Rattle.run.specs.Walk.{walk}
use Rattle.gravity_stored.specs.Injection.{launched}
use Rattle.state_checks.specs.Common.{common_checks}
use Rattle.run_checks.specs.Start.{inputs_checks, start_checks}
use Rattle.run.specs.Run.{Reached, counted, run_to}
use Rattle.run_checks.proofs.Allowed.{away}
use Rattle.run.proofs.OneStep.{done}
use Rattle.run.proofs.Walks.{walk_first}
use Rattle.run.proofs.Runs.{run_arrived, run_refused, run_on}
use Rattle.run.proofs.Start.{may_walk}
use Rattle.listing_write.specs.Lines.{header_line, state_line, outcome_line, lone_refusal}
use Rattle.strip_order.specs.Order.{order_length, order_of, read_order}
use Rattle.listing_write.specs.Strip.{and_then, states_after, state_lines, run_text, steps_to, order_text, strip_text}
use Rattle.listing_write.specs.Course.{course_text}
use Rattle.strip_order.specs.declared.Form.{Form}
use Rattle.strip_order.specs.declared.Form.TheVariants.{Plain, Whole}
use Rattle.strip_order.specs.declared.Order.{Order}
use Rattle.strip_order.proofs.Old as orders
use Rattle.strip_order.proofs.Old.{zeros}
use Rattle.listing_write.proofs.Courses.{text_goes_on}

-- ---- the states listed are those of the plain walk, in order

pub states_walk : (f : State → Moved) (other : State) (n : ℕ) (s : State) (i : ℕ) → i < length (states_after f n s) → walk f (suc i) s ≡ Ok (get_or (states_after f n s) i other)
unfolding states_after walk
states_walk f other zero s i h = absurd (omega arith)
states_walk f other (suc n) s i h = go (f s) refl i h (states_walk f other n)
  where
    go : (m : Moved) → f s ≡ m → (i : ℕ) → i < length (and_then (states_after f n) m)
        → ((s : State) (i : ℕ) → i < length (states_after f n s) → walk f (suc i) s ≡ Ok (get_or (states_after f n s) i other))
        → walk f (suc i) s ≡ Ok (get_or (and_then (states_after f n) m) i other)
    go (Err k) e i h later = absurd (omega arith)
    go (Ok next) e zero h later = e
    go (Ok next) e (suc i) h later = walk_first f (suc i) s next e ∙ later next i (omega arith)

-- ---- the text from a place of the run on is the run's

abbrev pub text_of : (State → Moved) → ℕ → State → Reached → List ℕ
text_of f did s r = state_lines (states_after f r.steps s) ++ outcome_line r.outcome (did + r.steps)

one_more : (f : State → Moved) (did : ℕ) (s next : State) (r : Reached) → f s ≡ Ok next → text_of f did s (counted r) ≡ state_line next ++ text_of f (did + 1) next r
unfolding states_after state_lines
one_more f did s next r e =
    let q : did + suc r.steps ≡ did + 1 + r.steps = omega arith in
    rw (add-one r.steps, e, q) (append_assoc (state_line next) (state_lines (states_after f r.steps next)) _)

module _ (f : State → Moved) (h target : ℕ) (some : 1 ≤ h) (clock : (s next : State) → f s ≡ Ok next → next.moment ≡ s.moment + h) where
  pub course_run : (left did : ℕ) (s : State) → s.moment + left * h ≡ target → course_text f left did s ≡ text_of f did s (run_to f target left s)
  unfolding course_text states_after state_lines
  course_run zero did s reach =
      let here : s.moment ≡ target = let z = zero-mul h in omega arith in
      rw (run_arrived f target s 0 here, add-zero did)
  course_run (suc left) did s reach = go (f s) refl (course_run left)
    where
      m : suc left * h ≡ left * h + h
      m = suc-mul left h

      short : s.moment ≡ target → ⊥
      short e = omega (arith, m)

      go : (m : Moved) → f s ≡ m
          → ((did : ℕ) (s : State) → s.moment + left * h ≡ target → course_text f left did s ≡ text_of f did s (run_to f target left s))
          → course_text f (suc left) did s ≡ text_of f did s (run_to f target (suc left) s)
      go (Err k) e later = rw (run_refused f target s short left k e, e, add-zero did)
      go (Ok next) e later =
          let c = clock s next e in
          let l : suc left - 1 ≡ left = omega arith in
          rw (run_on f target s short left next e)
          (text_goes_on f did s (suc left) next (λ z. absurd (omega arith)) e
          ∙ rw l (ap (λ (t : List ℕ). state_line next ++ t) (later (did + 1) next (omega (arith, m))))
          ∙ sym (one_more f did s next (run_to f target left next) e))

  pub run_course : (n : ℕ) (s : State) → s.moment + n * h ≡ target → run_text f target n s ≡ state_line s ++ course_text f n 0 s
  unfolding state_lines
  run_course n s reach =
      let r = run_to f target n s in
      append_assoc (state_line s) (state_lines (states_after f r.steps s)) (outcome_line r.outcome r.steps)
      ∙ ap (λ (t : List ℕ). state_line s ++ t) (sym (course_run n 0 s reach ∙ ap (λ (k : ℕ). state_lines (states_after f r.steps s) ++ outcome_line r.outcome k) (zero-add r.steps)))

-- what strip prints for an order that passes: the header, the injection, and the text of its course, which the portions write
pub order_course : (b : List ℕ) (o : Order) → start_checks b o.setting (launched b o.setting o.injection) o.h o.target ≡ Ok tt
    → order_text b o
    ≡ header_line o.h
    ++ (state_line (launched b o.setting o.injection)
    ++ course_text (step b o.setting o.h) (steps_to (launched b o.setting o.injection) o.h o.target) 0 (launched b o.setting o.injection))
unfolding order_text
order_course b o e =
    let s = launched b o.setting o.injection in
    let may = may_walk b o.setting s o.h o.target e in
    let long = may.long in
    rw e (ap (λ (t : List ℕ). header_line o.h ++ t)
    (run_course (step b o.setting o.h) o.h o.target (omega arith) (λ s next d. (done b o.setting o.h s next d).moment)
    (steps_to s o.h o.target) s (away s.moment o.h o.target may.reachable)))

-- ---- an input longer than an order and the longest book need not be read to its end

too_long : (b : List ℕ) → longest_book < length b → passes b ≡ false
unfolding passes
too_long b h = rw (lt-leb (length b) longest_book h, and-false)

refused_1 : (b : List ℕ) (o : Order) → passes b ≡ false → order_text b o ≡ lone_refusal 1
unfolding order_text start_checks inputs_checks common_checks
refused_1 b o e = rw e

module _ (form : Form) where
  long_refused : (input : List ℕ) → order_length form + longest_book < length input → strip_text form input ≡ lone_refusal 1
  unfolding strip_text read_order
  long_refused input h =
      rw (le-ltb (length input) (order_length form) (omega arith))
      (refused_1 (drop (order_length form) input) (order_of form input) (too_long (drop (order_length form) input) (rw length-drop (omega arith))))

  pub enough_read : (input : List ℕ) (n : ℕ) → order_length form + longest_book < n → strip_text form (take n input) ≡ strip_text form input
  enough_read input n h = by_size (ltb n (length input)) refl
    where
      by_size : (t : Bool) → ltb n (length input) ≡ t → strip_text form (take n input) ≡ strip_text form input
      by_size true e =
          let m : n < length input = ltb-true n (length input) e in
          long_refused (take n input) (rw (length-take-le n input (omega arith)) h) ∙ sym (long_refused input (omega arith))
      by_size false e = ap (strip_text form) (take_all n input (ltb-false n (length input) e))

-- ---- document 02, R-7: strip prints for an old order what strip144 prints for the order with J, A and K zero after the old 120 bytes

pub old_as_new : (order : List ℕ) → length order ≡ 120 → (book : List ℕ) → strip_text Plain (order ++ book) ≡ strip_text Whole (order ++ zeros book)
unfolding strip_text
old_as_new order all book =
    let here : drop 144 (order ++ zeros book) ≡ book =
    ap (λ (n : ℕ). drop (n + 24) (order ++ zeros book)) (sym all) ∙ drop-append-add order (zeros book) 24 in
    rw (drop_at order book 120 all, here, orders.old_as_new order all book)
