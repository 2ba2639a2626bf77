-- `run::walking::walk_on` meets its contract: at the loop's test the rest of the run starts from now (`Walking`). Assumes nothing.
use mathlib.Core.Path.{◌≡◌, sym, ap, ◌∙◌}
use Prim.Native.Nat.{ℕ, suc, ◌+◌, ◌-◌, ◌≤◌, ◌<◌}
use native.Mathlib.Omega.{arith}
use Rattle.book.specs.Calm.{Ready}
use Rattle.step.specs.Step.{step}
use Rattle.run.specs.Run.{run_to, handed_back}
use Rattle.run.specs.declared.Outcome.TheVariants.{Arrived, Going, Refused}
use Rattle.run.proofs.Runs.{run_arrived, run_going, run_refused}
use Rattle.run.proofs.Walked.{handed_off, walk_starts, walk_in, walk_ends, walk_goes_on}
use Rattle.run.proofs.walking.walk_on.Goals as goal

one_more : (n budget : ℕ) → n < budget → budget - n ≡ suc (budget - (n + 1))
one_more n budget h = omega arith

no_more : (n budget : ℕ) → budget ≤ n → budget - n ≡ 0
no_more n budget h = omega arith

pub book_calm-calm-requires : goal.book_calm-calm-requires
book_calm-calm-requires c = c.requires.pass

pub loop-n-init : goal.loop-n-init
loop-n-init c = let x = c.args in
    walk_starts x.book.now x.setting x.start x.h x.target x.budget x.given c.requires

pub handed_back-requires : goal.handed_back-requires
handed_back-requires c = tt

pub returns-then-now-target : goal.returns-then-now-target
returns-then-now-target c = let x = c.args in
    let b = x.book.now in
    let l = c.loop-n in
    c.handed_back.ensures
    ∙ walk_ends b x.setting x.start x.h x.target x.budget x.given l.now l.guesses l.n l.invariant Arrived
    (run_arrived (step b x.setting x.h) x.target l.now (x.budget - l.n) c.if-now-target.true)

pub step_under-requires : goal.step_under-requires
step_under-requires c = let x = c.args in
    let l = c.loop-n in (
      (let ready : Ready c.args.book.now c.book_calm-calm.result = record { pass = c.requires.pass; calmly = λ told. sym c.book_calm-calm.ensures ∙ told } in ready),
      walk_in x.book.now x.setting x.start x.h x.target x.budget x.given l.now
          l.guesses l.n l.invariant c.requires.ends,
    )

pub guesses_from-guesses-requires : goal.guesses_from-guesses-requires
guesses_from-guesses-requires c = tt

pub loop-n-preserved : goal.loop-n-preserved
loop-n-preserved c = let x = c.args in
    let b = x.book.now in
    let l = c.loop-n in
    rw c.guesses_from-guesses.ensures
    (walk_goes_on b x.setting x.start x.h x.target x.budget x.given l.now l.guesses l.n l.invariant _
    c.loop-n-test.true c.if-now-target.false (sym
    c.in-Ok.is ∙ c.step_under.ensures))

pub handed_back-requires-in-Err : goal.handed_back-requires-in-Err
handed_back-requires-in-Err c = tt

pub returns-in-Err : goal.returns-in-Err
returns-in-Err c = let x = c.args in
    let b = x.book.now in
    let l = c.loop-n in
    let off = handed_off _ _ _ (sym c.in-Err.is ∙ c.step_under.ensures) in
    c.handed_back-in-Err.ensures
    ∙ walk_ends b x.setting x.start x.h x.target x.budget x.given l.now l.guesses l.n l.invariant (Refused _)
    (ap (λ (k : ℕ). run_to (step b x.setting x.h) x.target k l.now) (one_more l.n x.budget c.loop-n-test.true)
    ∙ run_refused (step b x.setting x.h) x.target l.now c.if-now-target.false (x.budget - (l.n + 1)) _ off)

pub handed_back-requires-then-now-target-2 : goal.handed_back-requires-then-now-target-2
handed_back-requires-then-now-target-2 c = tt

pub returns-then-now-target-2 : goal.returns-then-now-target-2
returns-then-now-target-2 c = let x = c.args in
    let b = x.book.now in
    let l = c.loop-n in
    let all : l.n ≡ x.budget = (let within = l.invariant.within in omega arith) in
    c.handed_back-then-now-target-2.ensures
    ∙ ap (λ (k : ℕ). handed_back Arrived k l.now l.guesses) (sym all)
    ∙ walk_ends b x.setting x.start x.h x.target x.budget x.given l.now l.guesses l.n l.invariant Arrived
    (run_arrived (step b x.setting x.h) x.target l.now (x.budget - l.n) c.if-now-target-2.true)

pub handed_back-requires-2 : goal.handed_back-requires-2
handed_back-requires-2 c = tt

pub returns : goal.returns
returns c = let x = c.args in
    let b = x.book.now in
    let l = c.loop-n in
    let all : l.n ≡ x.budget = (let within = l.invariant.within in omega arith) in
    c.handed_back-2.ensures
    ∙ ap (λ (k : ℕ). handed_back Going k l.now l.guesses) (sym all)
    ∙ walk_ends b x.setting x.start x.h x.target x.budget x.given l.now l.guesses l.n l.invariant Going
    (ap (λ (k : ℕ). run_to (step b x.setting x.h) x.target k l.now) (no_more l.n x.budget c.loop-n-test.false)
    ∙ run_going (step b x.setting x.h) x.target l.now c.if-now-target-2.false)
