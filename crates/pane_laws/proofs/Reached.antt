-- States that the plain walk from a state reaches, and what takes one to another. Assumes nothing.
use mathlib.Core.Bool.{Bool, true, false}
use mathlib.Core.List.{List, [], ◌∷◌}
use mathlib.Core.Logic.{inl, inr}
use mathlib.Core.Path.{◌≡◌, refl, sym, ap, ◌∙◌, subst}
use Prim.Native.Nat.{ℕ, zero, suc, ◌+◌, ◌-◌, ◌*◌, ◌≤◌, ◌<◌}
use native.Mathlib.Nat.{zero-mul, suc-mul, add-zero, add-mul, add-suc}
use native.Mathlib.Decide.{dec_le}
use native.Mathlib.Omega.{arith}
use Rattle.std.specs.Prelude.{Ok, Err}
use Rattle.base.specs.declared.Refusal.{Refusal}
use Rattle.base.specs.Choice.{if◌then◌otherwise◌}
use Rattle.base.specs.Checks.{Checked}
use Rattle.state.specs.State.{centre_allowed}
use Rattle.state.specs.declared.State.{State}
use Rattle.state.specs.declared.Setting.{Setting}
use Rattle.book.specs.Passes.{passes}
use Rattle.gravity.specs.declared.Guesses.{Guesses}
use Rattle.run_checks.specs.Start.{start_checks}
use Rattle.run_checks.proofs.Allowed.{long_enough}
use Rattle.run_checks.proofs.Passed.{passed}
use Rattle.run.specs.Step.{Moved, step}
use Rattle.run.specs.Walk.{onward, walk}
use Rattle.run.specs.Run.{run_to, run_answer}
use Rattle.run.specs.declared.Outcome.{Outcome}
use Rattle.run.specs.declared.Outcome.TheVariants as outcome
use Rattle.run.specs.declared.RunAnswer.{RunAnswer}
use Rattle.run.proofs.Walks.{walk_more, walk_none}
use Rattle.run_laws.proofs.Answers.{answer_is, refused_is, moves, run_from, centre_stays}
use Rattle.book_laws.specs.Fuller.{HoldsAll}
use Rattle.book_laws.proofs.Walks.{walk_fuller}
use Rattle.pane_live.specs.Pane.{follows, taken_after, take, feed_by, feed, after}
use Rattle.pane_live.specs.declared.Pane.{Pane}
use Rattle.pane_live.specs.declared.Pane.TheVariants.{Blank, One, Two}
use Rattle.pane_live.specs.declared.TakeAnswer.TheVariants.{Taken, Refused}
use Rattle.pane_laws.specs.Desk.{InHand}

-- past a step that cannot be taken the walk reaches nothing
module _ (f : State → Moved) (s : State) (m : ℕ) (k : Refusal) (off : walk f m s ≡ Err k) where
  stays_off : (j : ℕ) → walk f (m + j) s ≡ Err k
  unfolding walk
  stays_off zero = ap (λ (n : ℕ). walk f n s) (add-zero m) ∙ off
  stays_off (suc j) = ap (λ (n : ℕ). walk f n s) (add-suc m j) ∙ ap (onward f) (stays_off j)

  pub not_past : (n : ℕ) (last : State) → walk f n s ≡ Ok last → n < m
  not_past n last on = go (dec_le m n)
    where
      go : Dec (m ≤ n) → n < m
      go (yes past) =
          let there : m + (n - m) ≡ n = omega arith in
          let clash : Err k ≡ Ok last = sym (stays_off (n - m)) ∙ ap (λ (i : ℕ). walk f i s) there ∙ on in
          let z : ◌≡◌ {A = ℕ} 0 1 = cc in
          absurd (omega arith)
      go (no short) = omega arith

module _ (b : List ℕ) (setting : Setting) (h : ℕ) where
  -- every step of the walk moves the clock by h
  pub walk_clock : (n : ℕ) (s last : State) → walk (step b setting h) n s ≡ Ok last → last.moment ≡ s.moment + n * h
  unfolding walk
  walk_clock zero s last e = let same : last ≡ s = cc in ap (λ (x : State). x.moment) same ∙ (let z = zero-mul h in omega arith)
  walk_clock (suc n) s last e = go (walk (step b setting h) n s) refl e (walk_clock n s)
    where
      go : (m : Moved) → walk (step b setting h) n s ≡ m → onward (step b setting h) m ≡ Ok last
          → ((middle : State) → walk (step b setting h) n s ≡ Ok middle → middle.moment ≡ s.moment + n * h) → last.moment ≡ s.moment + suc n * h
      go (Ok middle) w e before =
          let one = moves b setting h 0 middle last e in
          let rest = before middle w in
          let m = suc-mul n h in
          omega arith
      go (Err k) w e before = let z : ◌≡◌ {A = ℕ} 0 1 = cc in absurd (omega arith)

  -- a state that the plain walk from start reaches
  pub record Reached (start s : State) : Type 0 where
    pub n : ℕ
    pub walked : walk (step b setting h) n start ≡ Ok s
    pub clock : s.moment ≡ start.moment + n * h
    pub long : 1 ≤ n → 1 ≤ h
    pub allowed : 1 ≤ n → centre_allowed setting start.centre ≡ true

  pub itself : (s : State) → Reached s s
  itself s =
      record {
        n = 0;
        walked = walk_none (step b setting h) s;
        clock = let z = zero-mul h in omega arith;
        long = λ some. absurd (omega arith);
        allowed = λ some. absurd (omega arith);
      }

  pub same_centre : (start s : State) → Reached start s → s.centre ≡ start.centre
  same_centre start s r = centre_stays b setting h 0 r.n start s r.walked

  -- a run from such a state returns one, for every input
  pub ran_on : (start s : State) (target budget : ℕ) (given : Guesses) → Reached start s → Reached start (run_answer b setting s h target budget given).state
  ran_on start s target budget given r = go (start_checks b setting s h target) refl
    where
      started : start_checks b setting s h target ≡ Ok tt → Reached start (run_to (step b setting h) target budget s).state
      started e =
          let p = passed b setting s h target e in
          let f = run_from b setting h target s budget p in
          let q = run_to (step b setting h) target budget s in
          let long : 2 ≤ h = long_enough h p.length in
          record {
            n = r.n + q.steps;
            walked = walk_more (step b setting h) r.n q.steps start s r.walked ∙ f.walked;
            clock = let time = f.time in let clock = r.clock in let m = add-mul r.n q.steps h in omega arith;
            long = λ some. omega arith;
            allowed = λ some. ap (centre_allowed setting) (sym (same_centre start s r)) ∙ p.centred;
          }

      go : (checks : Checked) → start_checks b setting s h target ≡ checks → Reached start (run_answer b setting s h target budget given).state
      go (Ok tt) e = rw (answer_is b setting s h target budget given e) (started e)
      go (Err k) e = rw (refused_is b setting s h target budget given k e) r

  -- ---- all that the desk has in hand, and in the pane

  abbrev pub AllReached : State → List State → Type 0
  AllReached start [] = Unit {0}
  AllReached start (s ∷ rest) = Reached start s × AllReached start rest

  abbrev pub PaneReached : State → Pane → Type 0
  PaneReached start Blank = Unit {0}
  PaneReached start (One a) = Reached start a
  PaneReached start (Two a c) = Reached start a × Reached start c

  pub in_hand : (start s : State) (hand : List State) → AllReached start hand → InHand s hand → Reached start s
  in_hand start s [] all i = absurd i
  in_hand start s (first ∷ rest) all (inl same) = subst (Reached start) (sym same) all.0
  in_hand start s (first ∷ rest) all (inr later) = in_hand start s rest all.1 later

  after_one : (start : State) (pane : Pane) (a s : State) → PaneReached start pane → Reached start a → Reached start s → PaneReached start (after pane (taken_after a s))
  after_one start pane a s all older newer = go (follows a s)
    where
      go : (ok : Bool) → PaneReached start (after pane (if ok then Taken (Two a s) otherwise Refused Refusal.NotNext))
      go true = (older, newer)
      go false = all

  pub taken_on : (start : State) (pane : Pane) (s : State) → PaneReached start pane → Reached start s → PaneReached start (after pane (take pane s))
  unfolding take
  taken_on start Blank s all r = r
  taken_on start (One a) s all r = after_one start (One a) a s all all r
  taken_on start (Two a c) s all r = after_one start (Two a c) c s all all.1 r

  by_outcome : {R : Type 0} (start : State) (o : Outcome R) (pane : Pane) (s : State) → PaneReached start pane → Reached start s → PaneReached start (after pane (feed_by o pane s))
  by_outcome start outcome.Arrived pane s all r = taken_on start pane s all r
  by_outcome start outcome.Going pane s all r = taken_on start pane s all r
  by_outcome start (outcome.Refused k) pane s all r = all

  pub fed_on : {R : Type 0} (start : State) (pane : Pane) (answer : RunAnswer R) → PaneReached start pane → Reached start answer.state
      → PaneReached start (after pane (feed pane answer))
  unfolding feed
  fed_on start pane answer all r = by_outcome start answer.outcome pane answer.state all r

-- ---- under a fuller book

module _ (b c : List ℕ) (holds : HoldsAll b c) (pass : passes c ≡ true) (setting : Setting) (h : ℕ) (start : State) where
  pub still_reached : (s : State) → Reached b setting h start s → Reached c setting h start s
  still_reached s r =
      record {
        n = r.n;
        walked = walk_fuller b c holds pass setting h r.n start s r.allowed r.walked;
        clock = r.clock;
        long = r.long;
        allowed = r.allowed;
      }

  pub all_still : (hand : List State) → AllReached b setting h start hand → AllReached c setting h start hand
  all_still [] all = tt
  all_still (s ∷ rest) all = (still_reached s all.0, all_still rest all.1)

  pub pane_still : (pane : Pane) → PaneReached b setting h start pane → PaneReached c setting h start pane
  pane_still Blank all = tt
  pane_still (One a) all = still_reached a all
  pane_still (Two a d) all = (still_reached a all.0, still_reached d all.1)
