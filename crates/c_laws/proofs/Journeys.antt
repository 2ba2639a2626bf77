-- What a linked run wrote reads back as the state and the guesses of its answer. So a journey through the calls for C and Rust is a journey
-- of demand 3. Assumes nothing.
use mathlib.Core.List.{List, [], ◌∷◌, map}
use mathlib.Core.Path.{◌≡◌, refl, sym, ap, ◌∙◌}
use Prim.Native.Nat.{ℕ}
use lib.Ieee.{Float}
use Rattle.std.specs.Prelude.{Ok, Err}
use Rattle.base.specs.Checks.{Checked}
use Rattle.state.specs.declared.State.{State}
use Rattle.state.specs.declared.Injection.{Injection}
use Rattle.state.specs.declared.Setting.{Setting}
use Rattle.gravity.specs.declared.Guesses.{Guesses}
use Rattle.gravity_stored.specs.Injection.{launched}
use Rattle.gravity_stored.proofs.Launched.{launched_bare, launched_again}
use Rattle.run_checks.specs.Start.{start_checks}
use Rattle.run_checks.proofs.Passed.{passed}
use Rattle.run.specs.Step.{step}
use Rattle.run.specs.Run.{run_to, run_answer}
use Rattle.run.specs.declared.RunAnswer.{RunAnswer}
use Rattle.run_laws.specs.Journey.{Call, journey}
use Rattle.run_laws.proofs.Answers.{answer_is, refused_is, run_from, centre_stays}
use Rattle.run_laws.proofs.Order.{run_launched}
use Rattle.c_run.specs.Lent.{setting_of, no_extras, injection_of, state_of, guesses_of, coordinates_in, whole_in}
use Rattle.c_run.specs.Answers.{RunMemory, of_run, of_flight, of_flight_by}
use Rattle.c_laws.specs.Linked.{LinkedCall, as_call, linked_journey, old_journey}

-- a run stays about its centre
centre_stays_lem : (b : List ℕ) (setting : Setting) (s : State) (h target budget : ℕ) (given : Guesses)
    → (run_answer b setting s h target budget given).state.centre ≡ s.centre
centre_stays_lem b setting s h target budget given = go (start_checks b setting s h target) refl
  where
    go : (c : Checked) → start_checks b setting s h target ≡ c → (run_answer b setting s h target budget given).state.centre ≡ s.centre
    go (Ok tt) e =
        rw (answer_is b setting s h target budget given e)
        (let r = run_from b setting h target s budget (passed b setting s h target e) in
        centre_stays b setting h target (run_to (step b setting h) target budget s).steps s _ r.walked)
    go (Err k) e = rw (refused_is b setting s h target budget given k e)

pub state_reads_back : (b : List ℕ) (setting : Setting) (s : State) (h target budget : ℕ) (given : Guesses)
    → (let r = run_answer b setting s h target budget given in state_of (of_flight r).moment s.centre (of_flight r).coordinates ≡ r.state)
state_reads_back b setting s h target budget given =
    let r = run_answer b setting s h target budget given in
    ap (λ (c : ℕ). state_of (of_flight r).moment c (of_flight r).coordinates) (sym (centre_stays_lem b setting s h target budget given))

pub guesses_read_back : {R : Type 0} (told : R → ℕ) (r : RunAnswer R) → guesses_of (of_flight_by told r).guesses ≡ r.guesses
guesses_read_back told r = refl

module _ (b : List ℕ) (m extras : List Float) (dut rule centre h target : ℕ) where
  pub is_a_journey : (moment : ℕ) (coordinates : List Float) (calls : List LinkedCall)
      → linked_journey b m extras dut rule centre h target moment coordinates calls
      ≡ map of_flight (journey b (setting_of m extras dut rule) h target (state_of moment centre coordinates) (map as_call calls))
  is_a_journey moment coordinates [] = refl
  is_a_journey moment coordinates (call ∷ calls) =
      let s = state_of moment centre coordinates in
      let r = run_answer b (setting_of m extras dut rule) s h target call.budget (guesses_of call.guesses) in
      ap (λ (rest : List RunMemory). of_flight r ∷ rest)
      (is_a_journey r.state.moment (whole_in r.state) calls
      ∙ ap (λ (from : State). map of_flight (journey b (setting_of m extras dut rule) h target from (map as_call calls)))
      (state_reads_back b (setting_of m extras dut rule) s h target call.budget (guesses_of call.guesses)))

-- and through the old call
module _ (b : List ℕ) (m : List Float) (dut h target : ℕ) where
  abbrev old : Setting
  old = setting_of m no_extras dut 0

  old_reads_back : (i : Injection) (budget : ℕ) (given : Guesses) → i.centre ≡ 1
      → (let r = run_answer b old (launched b old i) h target budget given in
      launched b old (injection_of (of_run r).moment 1 (of_run r).coordinates) ≡ r.state)
  old_reads_back i budget given earth =
      let s = launched b old i in
      let r = run_answer b old s h target budget given in
      let centre : r.state.centre ≡ 1 =
      centre_stays_lem b old s h target budget given ∙ ap (λ (x : Injection). x.centre) (launched_bare b old i) ∙ earth in
      ap (λ (c : ℕ). launched b old (injection_of r.state.moment c (coordinates_in r.state))) (sym centre)
      ∙ run_launched b old h target s budget given (launched_again b old i)

  pub old_is_a_journey : (moment : ℕ) (coordinates : List Float) (calls : List LinkedCall)
      → old_journey b m dut h target moment coordinates calls
      ≡ map of_run (journey b old h target (launched b old (injection_of moment 1 coordinates)) (map as_call calls))
  old_is_a_journey moment coordinates [] = refl
  old_is_a_journey moment coordinates (call ∷ calls) =
      let s = launched b old (injection_of moment 1 coordinates) in
      let r = run_answer b old s h target call.budget (guesses_of call.guesses) in
      ap (λ (rest : List RunMemory). of_run r ∷ rest)
      (old_is_a_journey r.state.moment (coordinates_in r.state) calls
      ∙ ap (λ (from : State). map of_run (journey b old h target from (map as_call calls)))
      (old_reads_back (injection_of moment 1 coordinates) call.budget (guesses_of call.guesses) refl))
