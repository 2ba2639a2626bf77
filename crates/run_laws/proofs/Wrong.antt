-- Document 01's six wrong runs contradict the promise. Assumes nothing.
use mathlib.Core.Bool.{Bool, true, false, not, ◌&&◌, true≢false}
use mathlib.Core.Path.{◌≡◌, refl, sym, ap, ◌∙◌}
use Prim.Native.Nat.{ℕ, ◌+◌, ◌*◌}
use native.Mathlib.Omega.{arith}
use lib.Ieee.{Float, neg, add, sub, mul, div, lt, eq, of_bits, to_bits, of_int}
use Rattle.std.specs.Prelude.{Ok, Err}
use Rattle.base.specs.Floats.{whole}
use Rattle.state.specs.State.{setting_allowed, coefficients_allowed, terms_allowed, coefficient_of, centre_allowed, same_vector, n}
use Rattle.state.specs.declared.Vector.{Vector}
use Rattle.state.specs.declared.State.{State}
use Rattle.book.specs.Passes.{passes}
use Rattle.base_bytes.specs.Bytes.{u16_at, u32_at, u64_at}
use Rattle.root.specs.Root.{root_of}
use Rattle.gravity.specs.Pull.{g, sound, r3}
use Rattle.gravity.specs.Acceleration.{sky, acceleration_at}
use Rattle.gravity_stored.specs.Injection.{stored_check}
use Rattle.state_checks.specs.Common.{common_checks}
use Rattle.run_checks.specs.Start.{inputs_checks, start_checks}
use Rattle.run.specs.Step.{Moved, step_h, along, weighed, half, sixth, step}
use Rattle.run.specs.Run.{ended, counted, run_to, with_guesses, run_answer}
use Rattle.run_target.specs.Target.{target_checks}
use Rattle.run.specs.declared.Outcome.TheVariants.{Arrived, Going, Refused}
use Rattle.run.specs.declared.RunAnswer.{RunAnswer}
use Rattle.run.proofs.OneStep.{done}
use Rattle.run.proofs.Runs.{run_arrived, run_on}
use Rattle.base.proofs.Bools.{left, right}
use Rattle.base.specs.declared.Refusal.{Refusal}
use Rattle.run_laws.specs.Wrong.{RunCall, Promised, RefusesEverything, AnswersAConstant, OwnStateAsArrived, OwnStateAsGoing, OnlyTheClock}
use Rattle.run_laws.specs.Wrong.{InventsACount, example_book, example_setting, example_state, example_h, no_guesses}
use Rattle.run_laws.proofs.Answers.{answer_is}
use Rattle.run_laws.proofs.Portions.{clock_always}

-- the example is in order
ordered : stored_check example_book example_setting example_state ≡ Ok tt
unfolding stored_check same_vector acceleration_at coefficient_of sky g sound r3 n root_of neg add sub mul div lt eq of_bits of_int to_bits
ordered = refl

-- it passes the checks, with the target at its own moment, one step on and two steps on
passes_here : start_checks example_book example_setting example_state example_h 0 ≡ Ok tt
unfolding start_checks inputs_checks target_checks common_checks passes setting_allowed coefficients_allowed terms_allowed centre_allowed coefficient_of u16_at u32_at u64_at lt of_bits of_int
passes_here = rw ordered

passes_there : start_checks example_book example_setting example_state example_h 2000 ≡ Ok tt
unfolding start_checks inputs_checks target_checks common_checks passes setting_allowed coefficients_allowed terms_allowed centre_allowed coefficient_of u16_at u32_at u64_at lt of_bits of_int
passes_there = rw ordered

abbrev f : State → Moved
f = step example_book example_setting example_h

-- the answer of a run of the example, with the target at its own moment
arrives_here : (run_answer example_book example_setting example_state example_h 0 1 no_guesses).outcome ≡ Arrived
unfolding run_to
arrives_here = ap (λ (r : RunAnswer Refusal). r.outcome) (answer_is example_book example_setting example_state example_h 0 1 no_guesses passes_here)

-- and short of it, with no budget
goes_there : (run_answer example_book example_setting example_state example_h 2000 0 no_guesses).outcome ≡ Going
unfolding run_to
goes_there = ap (λ (r : RunAnswer Refusal). r.outcome) (answer_is example_book example_setting example_state example_h 2000 0 no_guesses passes_there)

-- the second step goes on: y is below 5 after the first step and not after the second
abbrev low : State → Bool
low s = lt s.y (whole 5)

abbrev goes_on : Moved → Bool
goes_on (Ok second) = not (low second)
goes_on (Err k) = false

abbrev two_steps : Moved → Bool
two_steps (Ok first) = low first && goes_on (f first)
two_steps (Err k) = false

both_taken : two_steps (f example_state) ≡ true
unfolding step step_h along weighed half sixth acceleration_at coefficient_of sky g sound r3 n root_of neg add sub mul div lt eq of_bits of_int
both_taken = refl

module _ (call : RunCall) (promised : Promised call) where
  pub not_everything_refused : RefusesEverything call → ⊥
  not_everything_refused refuses =
      let r = refuses example_book example_setting example_state example_h 0 1 no_guesses in
      let same : Arrived ≡ Refused r.0 =
      sym arrives_here ∙ ap (λ (a : RunAnswer Refusal). a.outcome) (sym (promised example_book example_setting example_state example_h 0 1 no_guesses)) ∙ r.1 in
      let z : ◌≡◌ {A = ℕ} 0 1 = cc in
      omega arith

  pub not_a_constant : AnswersAConstant call → ⊥
  not_a_constant (c, always) =
      let same : Arrived ≡ Going =
      sym arrives_here
      ∙ ap (λ (a : RunAnswer Refusal). a.outcome) (sym (promised example_book example_setting example_state example_h 0 1 no_guesses))
      ∙ ap (λ (a : RunAnswer Refusal). a.outcome) (always example_book example_setting example_state example_h 0 1 no_guesses)
      ∙ ap (λ (a : RunAnswer Refusal). a.outcome) (sym (always example_book example_setting example_state example_h 2000 0 no_guesses))
      ∙ ap (λ (a : RunAnswer Refusal). a.outcome) (promised example_book example_setting example_state example_h 2000 0 no_guesses)
      ∙ goes_there in
      let z : ◌≡◌ {A = ℕ} 0 1 = cc in
      omega arith

  pub not_its_own_state_as_arrived : OwnStateAsArrived call → ⊥
  not_its_own_state_as_arrived own =
      let same : Going ≡ Arrived =
      sym goes_there
      ∙ ap (λ (a : RunAnswer Refusal). a.outcome)
      (sym (promised example_book example_setting example_state example_h 2000 0 no_guesses)
      ∙ own example_book example_setting example_state example_h 2000 0 no_guesses passes_there) in
      let z : ◌≡◌ {A = ℕ} 0 1 = cc in
      omega arith

  pub not_its_own_state_as_going : OwnStateAsGoing call → ⊥
  not_its_own_state_as_going own =
      let same : Arrived ≡ Going =
      sym arrives_here
      ∙ ap (λ (a : RunAnswer Refusal). a.outcome)
      (sym (promised example_book example_setting example_state example_h 0 1 no_guesses)
      ∙ own example_book example_setting example_state example_h 0 1 no_guesses passes_here) in
      let z : ◌≡◌ {A = ℕ} 0 1 = cc in
      omega arith

  pub no_invented_count : InventsACount call → ⊥
  no_invented_count i =
      let same = promised i.b i.setting i.s i.h i.target i.budget i.given in
      i.invented
      (ap (λ (a : RunAnswer Refusal). a.state.moment) same
      ∙ clock_always i.b i.setting i.s i.h i.target i.budget i.given
      ∙ ap (λ (a : RunAnswer Refusal). i.s.moment + a.steps * i.h) (sym same))

  pub not_only_the_clock : OnlyTheClock call → ⊥
  not_only_the_clock only = go (f example_state) refl both_taken
    where
      -- the answer to two steps of the example is the second step's state
      answer : (first second : State) → f example_state ≡ Ok first → f first ≡ Ok second
          → call example_book example_setting example_state example_h 2000 2 no_guesses
          ≡ with_guesses example_book example_setting no_guesses (counted (counted (ended Arrived second)))
      answer first second one two =
          let here : first.moment ≡ 0 + 1000 = (done example_book example_setting example_h example_state first one).moment in
          let there : second.moment ≡ first.moment + 1000 = (done example_book example_setting example_h first second two).moment in
          promised example_book example_setting example_state example_h 2000 2 no_guesses
          ∙ answer_is example_book example_setting example_state example_h 2000 2 no_guesses passes_there
          ∙ ap (with_guesses example_book example_setting no_guesses)
          (run_on f 2000 example_state (λ e. absurd (omega arith)) 1 first one
          ∙ ap counted (run_on f 2000 first (λ e. absurd (omega arith)) 0 second two ∙ ap counted (run_arrived f 2000 second 0 (omega arith))))

      clash : (first second : State) → f example_state ≡ Ok first → f first ≡ Ok second → low first ≡ true → not (low second) ≡ true → ⊥
      clash first second one two before after =
          let is = answer first second one two in
          let frozen = (only example_book example_setting example_state first example_h 2000 2 no_guesses one (rw is (omega arith))).0 in
          let same : second.y ≡ first.y = sym (ap (λ (a : RunAnswer Refusal). a.state.y) is) ∙ ap (λ (v : Vector). v.y) frozen in
          let still : low second ≡ true = ap (λ (y : Float). lt y (whole 5)) same ∙ before in
          true≢false (sym after ∙ ap not still)

      second_step : (first : State) (m : Moved) → f example_state ≡ Ok first → f first ≡ m → (low first && goes_on m) ≡ true → ⊥
      second_step first (Ok second) one two e =
          clash first second one two (left (low first) (not (low second)) e) (right (low first) (not (low second)) e)
      second_step first (Err k) one two e = true≢false (sym (right (low first) false e))

      go : (m : Moved) → f example_state ≡ m → two_steps m ≡ true → ⊥
      go (Ok first) one e = second_step first (f first) one refl e
      go (Err k) one e = true≢false (sym e)
