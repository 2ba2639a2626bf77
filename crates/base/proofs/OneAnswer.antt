-- Document 01: "any pair of results allowed by the promise is proved equal". The statement is about the contract of a call as the prover
-- gets it from the source. Assumes nothing.
use mathlib.Core.Path.{◌≡◌, sym, ◌∙◌, subst}
use seplogic.Ra.Ura.{Ura}
use base.Logic.{SProp, ent, sep, emp, ex∗, via, snd∗}
use prog.Memory.{Memory}
use prog.Routine.{Routine}
use types.Logic.{Logic}
use contract.Monad.{Fun, fact, fact_mono}
use contract.Lifetimes.{Lfts}
use denote.Triple.Entry.{Args, Res}
use denote.Triple.Clauses.{Ended, AtExit, Clauses}

-- What a call promises about its inputs, its result and the caller's memory afterwards: its `ensures`, over any machine that the program
-- logic allows.
abbrev pub Promise : Ended → Type 2
Promise call = (M : Type 1) (𝓤 : Ura M) → (𝓛 : Logic 𝓤) → (Memory → SProp 𝓤) → (Routine → Fun 𝓤) → Clauses 𝓤 call

-- The outcome of a call for its caller: its result, or its result and the contents of the caller's memory afterwards, as one value.
abbrev pub Told : Ended → Type 1
Told call = Lfts call.signature.lifetimes → Type 0

abbrev pub Tell : (call : Ended) → Told call → Type 0
Tell call told = (κs : Lfts call.signature.lifetimes) → Res call.signature κs → AtExit call κs → told κs

-- For all inputs and any two outcomes that the promise allows, the two are equal for the caller. (M, 𝓤, H, A, mem and run are the machine.
-- κs are the lifetimes of the caller's memory, and g the names that a contract binds; no call here binds any.)
pub record OneOutcome (call : Ended) (promise : Promise call) (told : Told call) (tell : Tell call told) : Type 2 where
  pub equal :
      (M : Type 1) (𝓤 : Ura M) (𝓛 : Logic 𝓤) (mem : Memory → SProp 𝓤) (run : Routine → Fun 𝓤) (κs : Lfts call.signature.lifetimes)
      (inputs : Args call.signature κs) (g : (promise M 𝓤 𝓛 mem run κs inputs).ghost) (r r' : Res call.signature κs) (after after' : AtExit call κs)
      → ent 𝓤 (sep 𝓤 ((promise M 𝓤 𝓛 mem run κs inputs).ensures g r after) ((promise M 𝓤 𝓛 mem run κs inputs).ensures g r' after'))
      (fact 𝓤 (tell κs r after ≡ tell κs r' after'))

-- the whole text of the promise is that the outcome for the caller is the definition's value at the inputs
abbrev pub Says : (call : Ended) → Promise call → (told : Told call) → Tell call told
    → ((κs : Lfts call.signature.lifetimes) → Args call.signature κs → told κs) → Type 2
Says call promise told tell definition =
    (M : Type 1) (𝓤 : Ura M) (𝓛 : Logic 𝓤) (mem : Memory → SProp 𝓤) (run : Routine → Fun 𝓤) (κs : Lfts call.signature.lifetimes)
    (inputs : Args call.signature κs) (g : (promise M 𝓤 𝓛 mem run κs inputs).ghost) (r : Res call.signature κs) (after : AtExit call κs)
    → (promise M 𝓤 𝓛 mem run κs inputs).ensures g r after ≡ fact 𝓤 (tell κs r after ≡ definition κs inputs)

both_facts : {M : Type 1} (𝓤 : Ura M) {φ ψ χ : Type 0} → (φ → ψ → χ) → ent 𝓤 (sep 𝓤 (fact 𝓤 φ) (fact 𝓤 ψ)) (fact 𝓤 χ)
both_facts 𝓤 {φ} {ψ} {χ} f = ex∗ 𝓤 (λ (_ : φ). emp 𝓤) (fact 𝓤 ψ) (λ x. via 𝓤 (fact 𝓤 ψ) (snd∗ 𝓤 (emp 𝓤) (fact 𝓤 ψ)) (fact_mono 𝓤 ψ χ (f x)))

-- The one law: a promise of that text allows one outcome.
pub one_outcome : {call : Ended} {promise : Promise call} (told : Told call) (tell : Tell call told)
    (definition : (κs : Lfts call.signature.lifetimes) → Args call.signature κs → told κs)
    → Says call promise told tell definition → OneOutcome call promise told tell
one_outcome {call} {promise} told tell definition says =
    record {
      equal = λ M 𝓤 𝓛 mem run κs inputs g r r' after after'.
          subst (λ (P : SProp 𝓤). ent 𝓤 (sep 𝓤 P ((promise M 𝓤 𝓛 mem run κs inputs).ensures g r' after')) (fact 𝓤 (tell κs r after ≡ tell κs r' after')))
          (sym (says M 𝓤 𝓛 mem run κs inputs g r after))
          (subst (λ (P : SProp 𝓤). ent 𝓤 (sep 𝓤 (fact 𝓤 (tell κs r after ≡ definition κs inputs)) P) (fact 𝓤 (tell κs r after ≡ tell κs r' after')))
          (sym (says M 𝓤 𝓛 mem run κs inputs g r' after'))
          (both_facts 𝓤 (λ (e : tell κs r after ≡ definition κs inputs) (e' : tell κs r' after' ≡ definition κs inputs). e ∙ sym e')));
    }

-- for a call that writes no memory of the caller, the outcome is the result
abbrev pub result : (call : Ended) → Told call
result call κs = Res call.signature κs

abbrev pub the_result : (call : Ended) → Tell call (result call)
the_result call κs r after = r

-- For all inputs and any two results r and r' that the promise allows, r ≡ r'.
abbrev pub OneAnswer : (call : Ended) → Promise call → Type 2
OneAnswer call promise = OneOutcome call promise (result call) (the_result call)

abbrev pub one_answer : {call : Ended} {promise : Promise call} (definition : (κs : Lfts call.signature.lifetimes) → Args call.signature κs → Res call.signature κs)
    → Says call promise (result call) (the_result call) definition → OneAnswer call promise
one_answer {call} definition says = one_outcome (result call) (the_result call) definition says
