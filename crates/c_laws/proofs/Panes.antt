-- (02, R-14) What a call of the pane wrote reads back as the pane after it. So a pane in memory fed with flights is the pane fed with the
-- journey. Assumes nothing.
use mathlib.Core.Bool.{Bool, true}
use mathlib.Core.List.{List, [], ◌∷◌, map}
use mathlib.Core.Path.{◌≡◌, refl, ap, ◌∙◌}
use Prim.Native.Nat.{ℕ, ◌-◌, ◌≤◌, ◌<◌}
use native.Mathlib.Omega.{arith}
use lib.Ieee.{Float}
use borrow.Author.Tests.{leb-true, ne_eqb}
use Rattle.std.specs.Prelude.{Some}
use Rattle.base.specs.Refusals.{number_of}
use Rattle.base.specs.declared.Refusal.{Refusal}
use Rattle.base.specs.Choice.{◌<?◌, ◌≤?◌, ◌=?◌}
use Rattle.base.proofs.Cases.{by_if}
use Rattle.base.proofs.Bools as bools
use Rattle.state.specs.State.{finite_vector}
use Rattle.state.specs.declared.State.{State}
use Rattle.state.specs.declared.Setting.{Setting}
use Rattle.run.specs.Run.{run_answer}
use Rattle.run.specs.declared.Outcome.{Outcome}
use Rattle.run.specs.declared.RunAnswer.{RunAnswer}
use Rattle.run_laws.specs.Journey.{journey}
use Rattle.pane_live.specs.Pane.{follows, take, feed_by, feed, after, figure, frame_at}
use Rattle.pane_live.specs.Laws.{fed}
use Rattle.pane_live.specs.declared.Pane.{Pane}
use Rattle.pane_live.specs.declared.Pane.TheVariants.{Blank, One, Two}
use Rattle.pane_live.specs.declared.TakeAnswer.{TakeAnswer}
use Rattle.pane_live.specs.declared.TakeAnswer.TheVariants as taken
use Rattle.state.specs.declared.Vector.{Vector}
use Rattle.pane_live.specs.declared.FrameAnswer.{FrameAnswer}
use Rattle.c_run.specs.Lent.{setting_of, state_of, guesses_of, whole_in}
use Rattle.c_run.specs.Answers.{going, number_by, outcome_number}
use Rattle.c_pane.specs.Lent.{Kept, pane_of, numbers_in, places_in, pane_in, outcome_of, fed_with_outcome, fed_with, left}
use Rattle.c_pane.proofs.Fed.{fed_with_number}
use Rattle.belfry_pane.specs.Answers.{of_frame}
use Rattle.c_laws.specs.Table.{outcome_told_by}
use Rattle.c_laws.specs.Linked.{LinkedCall, as_call, linked_journey}
use Rattle.c_laws.specs.Panes.{fed_in, taken_or18, fed_or18, frame_told}
use Rattle.c_laws.proofs.Journeys.{state_reads_back}

pub pane_reads_back : (pane : Pane) → pane_of (numbers_in pane) (places_in pane) ≡ pane
pane_reads_back Blank = refl
pane_reads_back (One a) = refl
pane_reads_back (Two a b) = refl

-- what a run returned reads back as its outcome
refusal_reads_back : (k : Refusal) → outcome_of (number_of k) ≡ Some (Outcome.Refused k)
refusal_reads_back Refusal.Book = refl
refusal_reads_back Refusal.Step = refl
refusal_reads_back Refusal.Moment = refl
refusal_reads_back Refusal.Setting = refl
refusal_reads_back Refusal.Target = refl
refusal_reads_back Refusal.Cover = refl
refusal_reads_back Refusal.NotFinite = refl
refusal_reads_back Refusal.Date = refl
refusal_reads_back Refusal.Parabola = refl
refusal_reads_back Refusal.StraightLine = refl
refusal_reads_back Refusal.Root = refl
refusal_reads_back Refusal.Angle = refl
refusal_reads_back Refusal.Listing = refl
refusal_reads_back Refusal.Centre = refl
refusal_reads_back Refusal.Stored = refl
refusal_reads_back Refusal.Short = refl
refusal_reads_back Refusal.Large = refl
refusal_reads_back Refusal.NotNext = refl

outcome_reads_back : (o : Outcome Refusal) → outcome_of (outcome_number o) ≡ Some o
outcome_reads_back Outcome.Arrived = refl
outcome_reads_back Outcome.Going = refl
outcome_reads_back (Outcome.Refused k) = refusal_reads_back k

-- "`feed` takes what ask's `fly` answers": steps and guesses are not read
pub fed_as_answered : (pane : Pane) (r : RunAnswer Refusal) → fed_with pane (outcome_number r.outcome) r.state ≡ feed pane r
unfolding feed
fed_as_answered pane r = ap (fed_with_outcome pane r.state) (outcome_reads_back r.outcome)

-- the same where the answer holds any refusal whose number is told, and is one of the table
told_back : {R : Type 0} (told : R → ℕ) (pane : Pane) (s : State) (o : Outcome R) → outcome_told_by told o ≡ true
    → fed_with pane (number_by told o) s ≡ feed_by o pane s
unfolding feed
told_back told pane s Outcome.Arrived e = refl
told_back told pane s Outcome.Going e = refl
told_back told pane s (Outcome.Refused k) e =
    let least : 1 ≤ told k = leb-true 1 (told k) (bools.left (1 ≤? told k) (told k ≤? 18) e) in
    let most : told k ≤ 18 = leb-true (told k) 18 (bools.right (1 ≤? told k) (told k ≤? 18) e) in
    fed_with_number pane (told k) s ∙ rw (ne_eqb (told k) 0 (λ z. absurd (omega arith)), ne_eqb (told k) 100 (λ z. absurd (omega arith)))

pub fed_as_answered_by : {R : Type 0} (told : R → ℕ) (pane : Pane) (r : RunAnswer R) → outcome_told_by told r.outcome ≡ true
    → fed_with pane (number_by told r.outcome) r.state ≡ feed pane r
unfolding feed
fed_as_answered_by told pane r e = told_back told pane r.state r.outcome e

left_is : (pane : Pane) (answer : TakeAnswer Refusal) → (left (pane_in pane) answer).memory ≡ pane_in (after pane answer)
left_is pane (taken.Taken next) = refl
left_is pane taken.Unchanged = refl
left_is pane (taken.Refused k) = refl

module _ (b : List ℕ) (m extras : List Float) (dut rule centre h target : ℕ) where
  abbrev setting : Setting
  setting = setting_of m extras dut rule

  abbrev flight : ℕ → List Float → LinkedCall → RunAnswer Refusal
  flight moment coordinates call = run_answer b setting (state_of moment centre coordinates) h target call.budget (guesses_of call.guesses)

  fed_once : (pane : Pane) (moment : ℕ) (coordinates : List Float) (call : LinkedCall)
      → (let r = flight moment coordinates call in
      (left (pane_in pane) (fed_with (pane_of (numbers_in pane) (places_in pane)) (outcome_number r.outcome) (state_of r.state.moment centre (whole_in r.state)))).memory
      ≡ pane_in (after pane (feed pane r)))
  fed_once pane moment coordinates call =
      let s = state_of moment centre coordinates in
      let r = flight moment coordinates call in
      ap (λ (p : Pane). (left (pane_in pane) (fed_with p (outcome_number r.outcome) (state_of r.state.moment centre (whole_in r.state)))).memory) (pane_reads_back pane)
      ∙ ap (λ (reached : State). (left (pane_in pane) (fed_with pane (outcome_number r.outcome) reached)).memory)
      (state_reads_back b setting s h target call.budget (guesses_of call.guesses))
      ∙ ap (λ (answer : TakeAnswer Refusal). (left (pane_in pane) answer).memory)
      (fed_as_answered pane r)
      ∙ left_is pane (feed pane r)

  -- a pane in memory, fed by a journey through the calls, is the pane fed by that journey
  pub fed_in_memory : (pane : Pane) (moment : ℕ) (coordinates : List Float) (calls : List LinkedCall)
      → fed_in centre (pane_in pane) (linked_journey b m extras dut rule centre h target moment coordinates calls)
      ≡ pane_in (fed pane (journey b setting h target (state_of moment centre coordinates) (map as_call calls)))
  fed_in_memory pane moment coordinates [] = refl
  fed_in_memory pane moment coordinates (call ∷ calls) =
      let s = state_of moment centre coordinates in
      let r = flight moment coordinates call in
      let next = after pane (feed pane r) in
      ap (λ (kept : Kept). fed_in centre kept (linked_journey b m extras dut rule centre h target r.state.moment (whole_in r.state) calls))
      (fed_once pane moment coordinates call)
      ∙ fed_in_memory next r.state.moment (whole_in r.state) calls
      ∙ ap (λ (from : State). pane_in (fed next (journey b setting h target from (map as_call calls))))
      (state_reads_back b setting s h target call.budget (guesses_of call.guesses))

-- the numbers that the calls return: only 0 means that a state is taken or a position shown, and no refusal is 101, 102 or 103
module _ (before : Kept) where
  abbrev taking : TakeAnswer Refusal → Bool
  taking answer = taken_or18 (left before answer).returned

  abbrev feeding : TakeAnswer Refusal → Bool
  feeding answer = fed_or18 (left before answer).returned

  -- a state offered, by any test that 0 and 18 meet
  offered : (p : TakeAnswer Refusal → Bool) (pane : Pane) (s : State) → ((next : Pane) → p (taken.Taken next) ≡ true) → p (taken.Refused Refusal.NotNext) ≡ true → p (take pane s) ≡ true
  unfolding take
  offered p Blank s took left_out = took _
  offered p (One a) s took left_out = by_if p (follows a s) (took _) left_out
  offered p (Two a b) s took left_out = by_if p (follows b s) (took _) left_out

  pub take_told : (pane : Pane) (s : State) → taken_or18 (left before (take pane s)).returned ≡ true
  take_told pane s = offered taking pane s (λ next. refl) refl

  by_outcome : {R : Type 0} (o : Outcome R) (pane : Pane) (s : State) → fed_or18 (left before (feed_by o pane s)).returned ≡ true
  by_outcome Outcome.Arrived pane s = offered feeding pane s (λ next. refl) refl
  by_outcome Outcome.Going pane s = offered feeding pane s (λ next. refl) refl
  by_outcome (Outcome.Refused k) pane s = refl

  pub feed_told : {R : Type 0} (pane : Pane) (r : RunAnswer R) → fed_or18 (left before (feed pane r)).returned ≡ true
  unfolding feed
  feed_told pane r = by_outcome r.outcome pane r.state

  -- the same of every number that `belfry_feed` is given, also of one that no run returns
  pub feed_number_told : (pane : Pane) (n : ℕ) (s : State) → fed_or18 (left before (fed_with pane n s)).returned ≡ true
  feed_number_told pane n s =
      let taken_told : feeding (take pane s) ≡ true = offered feeding pane s (λ next. refl) refl in
      rw (fed_with_number pane n s) (by_if feeding (n =? 0) taken_told (by_if feeding (n =? going) taken_told refl))

abbrev framing : FrameAnswer Vector Refusal → Bool
framing answer = frame_told (of_frame answer).returned

pub frame_told_lem : (pane : Pane) (t : ℕ) → frame_told (of_frame (frame_at pane t)).returned ≡ true
unfolding frame_at
frame_told_lem Blank t = refl
frame_told_lem (One a) t = refl
frame_told_lem (Two a b) t =
    by_if framing (b.moment <? t) refl
    (by_if framing (t <? a.moment) refl (by_if framing (finite_vector (figure a b t)) refl refl))
