-- Document 02, R-12: runs under a fuller book. Assumes nothing.
use mathlib.Core.Bool.{Bool, true, false}
use mathlib.Core.List.{List}
use mathlib.Core.Logic.{◌⊎◌, inl, inr}
use mathlib.Core.Path.{◌≡◌, refl, sym, ap, ◌∙◌}
use Prim.Native.Nat.{ℕ, zero, suc, ◌≤◌}
use native.Mathlib.Numerals.{add-one}
use native.Mathlib.Omega.{arith}
use borrow.Author.Tests.{eqb-true, eqb-false}
use Rattle.std.specs.Prelude.{Ok, Err}
use Rattle.base.specs.declared.Refusal.{Refusal}
use Rattle.state.specs.State.{centre_allowed}
use Rattle.state.specs.declared.State.{State}
use Rattle.state.specs.declared.Setting.{Setting}
use Rattle.book.specs.Passes.{passes}
use Rattle.gravity.specs.declared.Guesses.{Guesses}
use Rattle.gravity_stored.specs.Injection.{stored_check}
use Rattle.base.specs.Checks.{Checked, ◌before◌}
use Rattle.run_target.specs.Target.{target_checks}
use Rattle.run_checks.specs.Start.{inputs_checks, start_checks}
use Rattle.run_checks.proofs.Passed.{opened, passed}
use Rattle.run.specs.Step.{Moved, step}
use Rattle.run.specs.Walk.{walk}
use Rattle.run.specs.Run.{Reached, ended, counted, at_target, run_to, with_guesses, run_answer}
use Rattle.run.specs.declared.Outcome.TheVariants.{Refused}
use Rattle.run.proofs.OneStep.{done}
use Rattle.run.proofs.Runs.{run_arrived, run_refused, run_on}
use Rattle.run.proofs.Walks.{walk_first, walk_none}
use Rattle.run_laws.proofs.Answers.{answer_is, refused_is}
use Rattle.book_laws.specs.Fuller.{HoldsAll, Unless, FullerRun}
use Rattle.book_laws.proofs.Carried as carry
use Rattle.book_laws.proofs.Calls.{same_common, stored_fuller, step_fuller}

-- ---- the run over two steps of which the second is the same, unless the first has a gap

module _ (f g : State → Moved) (Good : State → Type 0) (each : (s : State) → Good s → Unless (Err Refusal.Cover) (f s) (g s))
    (keeps : (s next : State) → Good s → f s ≡ Ok next → Good next) (target : ℕ) where
  pub record Gap (s : State) (r q : Reached) : Type 0 where
    pub uncovered : r.outcome ≡ Refused Refusal.Cover
    pub further : r.steps ≤ q.steps
    pub way : walk g r.steps s ≡ Ok r.state

  stopped : (s : State) (q : Reached) → Gap s (ended (Refused Refusal.Cover) s) q
  stopped s q = record { uncovered = refl; further = omega arith; way = walk_none g s }

  one_more : (s next : State) (r q : Reached) → g s ≡ Ok next → Gap next r q → Gap s (counted r) (counted q)
  one_more s next r q e later =
      record {
        uncovered = later.uncovered;
        further = let l = later.further in omega arith;
        way = ap (λ (n : ℕ). walk g n s) (add-one r.steps) ∙ walk_first g r.steps s next e ∙ later.way;
      }

  pub reached_fuller : (budget : ℕ) (s : State) → Good s → (run_to f target budget s ≡ run_to g target budget s) ⊎ Gap s (run_to f target budget s) (run_to g target budget s)
  unfolding run_to
  reached_fuller zero s ok = inl refl
  reached_fuller (suc budget) s ok = at (at_target target s) refl (reached_fuller budget)
    where
      onward : (s.moment ≡ target → ⊥) → Unless (Err Refusal.Cover) (f s) (g s) → (m : Moved) → f s ≡ m
          → ((s : State) → Good s → (run_to f target budget s ≡ run_to g target budget s) ⊎ Gap s (run_to f target budget s) (run_to g target budget s))
          → (run_to f target (suc budget) s ≡ run_to g target (suc budget) s) ⊎ Gap s (run_to f target (suc budget) s) (run_to g target (suc budget) s)
      onward short (inl e) m is later = inr (rw (run_refused f target s short budget Refusal.Cover e) (stopped s (run_to g target (suc budget) s)))
      onward short (inr e) (Err k) is later = inl (run_refused f target s short budget k is ∙ sym (run_refused g target s short budget k (sym e ∙ is)))
      onward short (inr e) (Ok next) is later =
          rw (run_on f target s short budget next is, run_on g target s short budget next (sym e ∙ is)) (go (later next (keeps s next ok is)))
        where
          go : (run_to f target budget next ≡ run_to g target budget next) ⊎ Gap next (run_to f target budget next) (run_to g target budget next)
              → (counted (run_to f target budget next) ≡ counted (run_to g target budget next))
              ⊎ Gap s (counted (run_to f target budget next)) (counted (run_to g target budget next))
          go (inl alike) = inl (ap counted alike)
          go (inr further) = inr (one_more s next _ _ (sym e ∙ is) further)

      at : (there : Bool) → at_target target s ≡ there
          → ((s : State) → Good s → (run_to f target budget s ≡ run_to g target budget s) ⊎ Gap s (run_to f target budget s) (run_to g target budget s))
          → (run_to f target (suc budget) s ≡ run_to g target (suc budget) s) ⊎ Gap s (run_to f target (suc budget) s) (run_to g target (suc budget) s)
      at true is later =
          let here = eqb-true s.moment target is in
          inl (run_arrived f target s (suc budget) here ∙ sym (run_arrived g target s (suc budget) here))
      at false is later = onward (eqb-false s.moment target is) (each s ok) (f s) refl later

-- ---- the run call

module _ (b c : List ℕ) (holds : HoldsAll b c) (first : passes b ≡ true) (second : passes c ≡ true) (setting : Setting) (h target : ℕ) where
  same_inputs : (s : State) → inputs_checks b setting s target ≡ inputs_checks c setting s target
  unfolding inputs_checks
  same_inputs s = same_common b c first second setting _ _ _

  pub start_fuller : (s : State) → Unless (Err Refusal.Cover) (start_checks b setting s h target) (start_checks c setting s h target)
  unfolding start_checks
  start_fuller s =
      let way = target_checks s.moment h target in
      let inputs = inputs_checks c setting s target in
      rw (same_inputs s)
      (carry.past inputs (Err Refusal.Cover) _ _
      (λ none. carry.carried (λ (checks : Checked). checks before way) (Err Refusal.Cover) (stored_check b setting s) (stored_check c setting s) (Err Refusal.Cover) refl
      (stored_fuller b c holds first second setting s (opened c setting s target none).1)))

  step_keeps : (s next : State) → centre_allowed setting s.centre ≡ true → step b setting h s ≡ Ok next → centre_allowed setting next.centre ≡ true
  step_keeps s next ok e = ap (centre_allowed setting) (done b setting h s next e).centre ∙ ok

  -- "every run that arrives with the first arrives with the second, same bits, same count; and a run refused under the first goes at least
  -- as many steps under the second": for all guesses
  pub run_fuller : (s : State) (budget : ℕ) (given other : Guesses)
      → FullerRun b c setting h s (run_answer b setting s h target budget given) (run_answer c setting s h target budget other)
  run_fuller s budget given other = go (start_checks b setting s h target) refl (start_fuller s)
    where
      started : start_checks b setting s h target ≡ Ok tt → start_checks c setting s h target ≡ Ok tt
          → FullerRun b c setting h s (run_answer b setting s h target budget given) (run_answer c setting s h target budget other)
      started e e' =
          rw (answer_is b setting s h target budget given e, answer_is c setting s h target budget other e')
          (by
          (reached_fuller (step b setting h) (step c setting h) (λ (x : State). centre_allowed setting x.centre ≡ true)
          (λ x ok. step_fuller b c holds second setting h x ok) step_keeps target budget s (passed b setting s h target e).centred))
        where
          by : (run_to (step b setting h) target budget s ≡ run_to (step c setting h) target budget s)
              ⊎ Gap (step b setting h) (step c setting h) (λ (x : State). centre_allowed setting x.centre ≡ true)
              (λ x ok. step_fuller b c holds second setting h x ok) step_keeps target s (run_to (step b setting h) target budget s) (run_to (step c setting h) target budget s)
              → FullerRun b c setting h s (with_guesses b setting given (run_to (step b setting h) target budget s)) (with_guesses c setting other (run_to (step c setting h) target budget s))
          by (inl alike) =
              inl (record { outcome = ap (λ (r : Reached). r.outcome) alike; steps = ap (λ (r : Reached). r.steps) alike; state = ap (λ (r : Reached). r.state) alike })
          by (inr further) = inr (record { uncovered = further.uncovered; further = further.further; way = further.way })

      go : (checks : Checked) → start_checks b setting s h target ≡ checks → Unless (Err Refusal.Cover) (start_checks b setting s h target) (start_checks c setting s h target)
          → FullerRun b c setting h s (run_answer b setting s h target budget given) (run_answer c setting s h target budget other)
      go checks e (inl at6) =
          inr (rw (refused_is b setting s h target budget given Refusal.Cover at6) (record { uncovered = refl; further = omega arith; way = walk_none (step c setting h) s }))
      go (Ok tt) e (inr alike) = started e (sym alike ∙ e)
      go (Err k) e (inr alike) =
          inl (rw (refused_is b setting s h target budget given k e, refused_is c setting s h target budget other k (sym alike ∙ e)) (record { outcome = refl; steps = refl; state = refl }))
