-- The text of a run, state by state, and the loop that writes it. Assumes nothing.
use Prim.Native.Nat.{ℕ, zero, suc, ◌+◌, ◌-◌, ◌*◌, ◌<◌, ◌≤◌}
use mathlib.Core.Bool.{true}
use mathlib.Core.List.{List, ◌++◌, append_assoc}
use mathlib.Core.Path.{◌≡◌, refl, sym, ap, ◌∙◌}
use native.Mathlib.Nat.{suc-mul, div-le_self}
use native.Mathlib.Omega.{arith}
use lib.ListN.{length, take, drop}
use Rattle.base.specs.declared.Refusal.{Refusal}
use Rattle.std.specs.Prelude.{Ok, Err}
use Rattle.state.specs.State.{centre_allowed}
use Rattle.state.specs.declared.State.{State}
use Rattle.state.specs.declared.Setting.{Setting}
use Rattle.gravity.specs.declared.Guesses.{Guesses}
use Rattle.step_end.specs.declared.Stepped.{Stepped}
use Rattle.run.specs.Step.{Moved, step}
use Rattle.run_checks.specs.Start.{within_steps}
use Rattle.run.specs.Kept.{kept, entries_after, MayStep, MayWalk}
use Rattle.run.specs.declared.Outcome.{Outcome}
use Rattle.run.specs.declared.Outcome.TheVariants.{Arrived, Going, Refused}
use Rattle.run_checks.proofs.Allowed.{away}
use Rattle.run.proofs.OneStep.{done}
use Rattle.run.proofs.Walked.{handed_on, handed_off}
use Rattle.text_write.specs.Written.{Wrote}
use Rattle.text_write.proofs.Writing.{later}
use Rattle.listing_write.specs.Lines.{state_line, outcome_line}
use Rattle.listing_write.specs.Strip.{steps_to}
use Rattle.listing_write.specs.Course.{course_text, remains, OnCourse, longest_line, Advanced, portion_of, start_of}
use Rattle.listing_write.specs.declared.Course.{Course}
use Rattle.listing_write.proofs.Lengths.{line_fits}

-- ---- the text at a place of a run

module _ (f : State → Moved) (did : ℕ) (s : State) where
  pub text_ends : (left : ℕ) → left ≡ 0 → course_text f left did s ≡ outcome_line Arrived did
  unfolding course_text
  text_ends zero e = refl
  text_ends (suc left) e = absurd (omega arith)

  pub text_goes_on : (left : ℕ) (next : State) → (left ≡ 0 → ⊥) → f s ≡ Ok next → course_text f left did s ≡ state_line next ++ course_text f (left - 1) (did + 1) next
  unfolding course_text
  text_goes_on zero next some e = absurd (some refl)
  text_goes_on (suc left) next some e = let l : suc left - 1 ≡ left = omega arith in rw (e, l)

  pub text_refused : (left : ℕ) (k : Refusal) → (left ≡ 0 → ⊥) → f s ≡ Err k → course_text f left did s ≡ outcome_line (Refused k) did
  unfolding course_text
  text_refused zero k some e = absurd (some refl)
  text_refused (suc left) k some e = rw e

-- ---- the loop: at bytes are written, and the rest starts from now

module _ (b : List ℕ) (setting : Setting) (h : ℕ) (from : Course) (before : List ℕ) where
  pub record Listing (out : List ℕ) (now : State) (entries : Guesses) (left did at : ℕ) : Type 0 where
    pub text : course_text (step b setting h) from.left from.done from.state ≡ take at out ++ course_text (step b setting h) left did now
    pub on : OnCourse b setting h (record { state = now; entries = entries; left = left; done = did })
    pub within : at ≤ length out
    pub rest : drop at out ≡ drop at before
    pub least : left ≤ from.left
    pub moved : left ≡ from.left → at ≡ 0

  pub begins : OnCourse b setting h from → Listing before from.state from.entries from.left from.done 0
  begins on = record { text = refl; on = on; within = omega arith; rest = refl; least = omega arith; moved = λ e. refl }

  module _ (out : List ℕ) (now : State) (entries : Guesses) (left did at : ℕ) (l : Listing out now entries left did at) where
    pub stands : MayStep setting now
    stands = (let i = l.on.inside in omega arith, l.on.centred)

    pub ends : (o : Outcome Refusal)
        → course_text (step b setting h) left did now ≡ remains (step b setting h) (record { state = now; entries = entries; left = left; done = did }) o
        → (o ≡ Going → length out < at + longest_line)
        → Advanced b setting h from before out (portion_of o now entries left did at)
    ends o rest full =
        record {
          text = l.text ∙ ap (λ (r : List ℕ). take at out ++ r) rest;
          within = l.within;
          rest = l.rest;
          onward = l.on;
          nearer = λ e room. nearer (full e) room;
        }
      where
        nearer : length out < at + longest_line → longest_line ≤ length out → left < from.left
        nearer full room =
            let least = l.least in
            let some : left ≡ from.left → ⊥ = λ e. let none = l.moved e in omega arith in
            omega arith

    module _ (some : left ≡ 0 → ⊥) where
      pub refuses : (k : Refusal) → Err k ≡ kept (entries_after b setting h now) (step b setting h now) → Advanced b setting h from before out (portion_of (Refused k) now entries left did at)
      refuses k e = ends (Refused k) (text_refused (step b setting h) did now left k some (handed_off _ _ k e)) (λ z. let c : ◌≡◌ {A = ℕ} 0 1 = cc in absurd (omega arith))

      pub goes_on : (there : Stepped) (after : List ℕ) (r : ℕ)
          → Ok there ≡ kept (entries_after b setting h now) (step b setting h now)
          → Wrote out at (state_line there.state) after r → at + longest_line ≤ length out → length after ≡ length out
          → Listing after there.state there.entries (left - 1) (did + 1) r
      goes_on there after r e w room same =
          let next = there.state in
          let handed = handed_on (entries_after b setting h now) (step b setting h now) there e in
          let did' = done b setting h now next handed.on in
          let moment = did'.moment in
          let inside = l.on.inside in
          let counts = l.on.counts in
          let least = l.least in
          let some' : 0 < left = omega (arith, some) in
          let product : left * h ≡ h + (left - 1) * h = one_step left h some' in
          let fits : length (state_line next) ≤ longest_line = line_fits next (omega arith) in
          record {
            text =
                l.text
                ∙ ap (λ (t : List ℕ). take at out ++ t) (text_goes_on (step b setting h) did now left next some handed.on)
                ∙ sym (append_assoc (take at out) (state_line next) (course_text (step b setting h) (left - 1) (did + 1) next))
                ∙ ap (λ (t : List ℕ). t ++ course_text (step b setting h) (left - 1) (did + 1) next) (sym w.bytes);
            on =
                record {
                  pass = l.on.pass;
                  centred = ap (centre_allowed setting) did'.centre ∙ l.on.centred;
                  inside = omega arith;
                  counts = omega arith;
                };
            within = omega (arith, w.next);
            rest = w.rest ∙ rw w.next (later before out at (length (state_line next)) l.rest);
            least = omega arith;
            moved = λ z. absurd (omega arith);
          }
        where
          one_step : (m h : ℕ) → 0 < m → m * h ≡ h + (m - 1) * h
          one_step zero h p = absurd (omega arith)
          one_step (suc k) h p = let d : suc k - 1 ≡ k = omega arith in rw d (let q = suc-mul k h in omega arith)

pub not_before : (t h target : ℕ) → within_steps t h target ≡ true → t ≤ target
not_before t h target e = let reach = away t h target e in omega arith

-- a run that passed the checks starts on course
pub starts : (b : List ℕ) (setting : Setting) (s : State) (h target : ℕ) → MayWalk b setting s h target → OnCourse b setting h (start_of s h target)
starts b setting s h target may =
    let reach = away s.moment h target may.reachable in
    let ends = may.ends in
    let few : steps_to s h target ≤ target - s.moment = div-le_self (target - s.moment) h in
    record { pass = may.pass; centred = may.centred; inside = omega arith; counts = omega arith }
