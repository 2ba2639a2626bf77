-- The night on which a record ends, and the fuller book after it. Assumes nothing.
use mathlib.Core.Bool.{true}
use mathlib.Core.List.{List, []}
use mathlib.Core.Path.{◌≡◌, refl, sym, ap, ◌∙◌}
use Prim.Native.Nat.{ℕ, ◌≤◌, ◌<◌}
use borrow.Author.Tests.{lt-ltb, le-ltb, eq-eqb}
use Rattle.std.specs.Prelude.{Ok, Err}
use Rattle.base.specs.Checks.{Checked}
use Rattle.base.specs.declared.Refusal.{Refusal}
use Rattle.state.specs.State.{position, velocity, finite_vector}
use Rattle.state.specs.declared.State.{State}
use Rattle.state.specs.declared.Setting.{Setting}
use Rattle.state.specs.declared.Vector.{Vector}
use Rattle.base.proofs.Bools.{left}
use Rattle.gravity.specs.declared.Guesses.{Guesses}
use Rattle.run_checks.specs.Start.{start_checks}
use Rattle.run_checks.proofs.Passed.{passed}
use Rattle.run.specs.Step.{step}
use Rattle.run.specs.Walk.{walk}
use Rattle.run.specs.Run.{run_to, run_answer}
use Rattle.run.specs.declared.Outcome.{Outcome}
use Rattle.run.specs.declared.Outcome.TheVariants as outcome
use Rattle.run.specs.declared.RunAnswer.{RunAnswer}
use Rattle.run_laws.specs.Journey.{Call, journey}
use Rattle.run_laws.specs.Journey as journeys
use Rattle.run_laws.proofs.Answers.{answer_is, refused_is, checks_stay}
use Rattle.centre_laws.specs.Legs.{Move, walk_with_moves}
use Rattle.centre_laws.proofs.Legs.{stand_walked}
use Rattle.book_laws.proofs.Walks.{walk_fuller, moves_fuller}
use Rattle.pane_live.specs.Pane.{take, feed_by, feed, clear, after, figure, shown, frame_at}
use Rattle.pane_live.specs.declared.Pane.{Pane}
use Rattle.pane_live.specs.declared.Pane.TheVariants.{Blank, One, Two}
use Rattle.pane_live.specs.declared.TakeAnswer.TheVariants.{Taken}
use Rattle.pane_live.specs.declared.FrameAnswer.TheVariants as frame
use Rattle.pane_live.proofs.Frames.{at_newer}
use Rattle.pane_laws.specs.Desk.{InHand, Desk, renews}
use Rattle.pane_laws.specs.OnAir.{OnAir, OffAir}
use Rattle.pane_laws.specs.Night.{Newest, NotRefused, PutOn, Night, NightHolds, pane_of_journey, pane_of_night}
use Rattle.pane_laws.proofs.Reached.{same_centre, ran_on, PaneReached, in_hand}
use Rattle.pane_laws.proofs.Kept.{always}
use Rattle.pane_laws.proofs.Shown.{on_air, off_air, on_air_moving, off_air_moving}
use Rattle.pane_laws.proofs.Journeys.{DeskWith, flies, ready}

-- ---- a later state of the same centre is taken, and shown

takes : (pane : Pane) (newest s : State) → Newest pane newest → s.centre ≡ newest.centre → newest.moment < s.moment → take pane s ≡ Taken (Two newest s)
unfolding take
takes Blank newest s is same later = absurd is
takes (One a) newest s is same later = rw (is, eq-eqb _ _ same, lt-ltb _ _ later)
takes (Two a b) newest s is same later = rw (is, eq-eqb _ _ same, lt-ltb _ _ later)

feeds : (pane : Pane) (newest : State) (r : RunAnswer Refusal) → NotRefused r → Newest pane newest → r.state.centre ≡ newest.centre → newest.moment < r.state.moment
    → after pane (feed pane r) ≡ Two newest r.state
unfolding feed
feeds pane newest r goes is same later = go r.outcome refl
  where
    go : (o : Outcome Refusal) → r.outcome ≡ o → after pane (feed_by o pane r.state) ≡ Two newest r.state
    go outcome.Arrived e = ap (after pane) (takes pane newest r.state is same later)
    go outcome.Going e = ap (after pane) (takes pane newest r.state is same later)
    go (outcome.Refused k) e = absurd (goes k e)

between_both : (a b : State) (t : ℕ) → a.moment ≤ t → t ≤ b.moment → frame_at (Two a b) t ≡ shown (figure a b t)
unfolding frame_at
between_both a b t from until = rw (le-ltb b.moment t until, le-ltb t a.moment from)

newest_centre : (b : List ℕ) (setting : Setting) (h : ℕ) (start : State) (pane : Pane) (newest : State) → PaneReached b setting h start pane → Newest pane newest
    → newest.centre ≡ start.centre
newest_centre b setting h start Blank newest holds is = absurd is
newest_centre b setting h start (One a) newest holds is = ap (λ (x : State). x.centre) (sym is) ∙ same_centre b setting h start a holds
newest_centre b setting h start (Two a c) newest holds is = ap (λ (x : State). x.centre) (sym is) ∙ same_centre b setting h start c holds.1

-- a run that is not refused returns a finite state
finite_there_lem : (b : List ℕ) (setting : Setting) (s : State) (h target budget : ℕ) (given : Guesses) → NotRefused (run_answer b setting s h target budget given)
    → finite_vector (position (run_answer b setting s h target budget given).state) ≡ true
finite_there_lem b setting s h target budget given goes = go (start_checks b setting s h target) refl
  where
    go : (checks : Checked) → start_checks b setting s h target ≡ checks → finite_vector (position (run_answer b setting s h target budget given).state) ≡ true
    go (Ok tt) e =
        rw (answer_is b setting s h target budget given e)
        (left _ (finite_vector (velocity (run_to (step b setting h) target budget s).state)) (checks_stay b setting h target s budget (passed b setting s h target e)).finite)
    go (Err k) e = absurd (goes k (ap (λ (r : RunAnswer Refusal). r.outcome) (refused_is b setting s h target budget given k e)))

module _ (setting : Setting) (h : ℕ) (injection : State) (b : List ℕ) (made : List Move) where
  -- the picture comes back, or continues: a run that is not refused and goes past the newest state of the pane is on air
  pub put_on : (hand : List State) (pane : Pane) (newest s : State) (target budget : ℕ) (given : Guesses) → Desk setting h injection b made hand pane
      → InHand s hand → Newest pane newest → NotRefused (run_answer b setting s h target budget given)
      → newest.moment < (run_answer b setting s h target budget given).state.moment → PutOn b setting h pane newest s target budget given
  put_on hand pane newest s target budget given desk i is goes later =
      let sound = always setting h injection b made hand pane desk in
      let r = run_answer b setting s h target budget given in
      let here = ran_on b setting h sound.start s target budget given (in_hand b setting h sound.start s hand sound.hands i) in
      let centre = same_centre b setting h sound.start r.state here ∙ sym (newest_centre b setting h sound.start pane newest sound.holds is) in
      let now = feeds pane newest r goes is centre later in
      record {
        between = λ t from until. ap (λ (p : Pane). frame_at p t) now ∙ between_both newest r.state t from until;
        there = ap (λ (p : Pane). frame_at p r.state.moment) now ∙ at_newer newest r.state later (finite_there_lem b setting s h target budget given goes);
      }

-- the night, for all actions of the desk
pub the_night : (setting : Setting) (h : ℕ) (injection : State) (b c : List ℕ) (made : List Move) (start last : State) (n : ℕ) (k : Refusal)
    → Night setting h injection b c made start last n k → NightHolds setting h injection b c made start last
the_night setting h injection b c made start last n k night =
    record {
      silent = λ hand pane t desk past.
          off_air setting h injection b made hand pane desk start last n k t (stand_walked b setting h injection start made night.moves) night.walked night.off past;
      same_start = same_start;
      same_walk = same_walk;
      still = λ j hand pane t off desk past. off_air setting h injection c made hand pane desk start last n j t same_start (same_walk n last night.walked) off past;
      shows = λ hand pane t p desk e. on_air setting h injection c made hand pane desk t p e;
      again = λ hand pane newest s target budget given desk i is goes later.
          put_on setting h injection c made hand pane newest s target budget given desk i is goes later;
      silent_moving = λ hand pane t desk past.
          off_air_moving setting h injection b made hand pane desk start last n k t (stand_walked b setting h injection start made night.moves) night.walked night.off past;
      shows_moving = λ hand pane t m desk e. on_air_moving setting h injection c made hand pane desk t m e;
    }
  where
    same_start : walk_with_moves c setting h made injection ≡ Ok start
    same_start =
        stand_walked c setting h injection start made (moves_fuller b c night.fuller night.pass setting h injection start made night.moves)

    same_walk : (m : ℕ) (s : State) → walk (step b setting h) m start ≡ Ok s → walk (step c setting h) m start ≡ Ok s
    same_walk m s walked = walk_fuller b c night.fuller night.pass setting h m start s (λ some. night.centred) walked

-- The night as journeys: calls toward a target under b, and then, from the state that they reached, calls under the fuller book c.
module _ (setting : Setting) (h target : ℕ) (injection : State) (b c : List ℕ) (last : State) (n : ℕ) (k : Refusal) (night : Night setting h injection b c [] injection last n k)
    (calls later : List Call) where
  renewed : DeskWith setting h injection c [] (journeys.after c setting h target (journeys.after b setting h target injection calls) later)
      (pane_of_night b c setting h target injection calls later)
  renewed =
      let d = flies setting h injection b [] target injection (after clear (take clear injection)) calls (ready setting h injection b) in
      flies setting h injection c [] target (journeys.after b setting h target injection calls) (pane_of_journey b setting h target injection calls) later
      (record { hand = d.hand; desk = renews b c [] d.hand (pane_of_journey b setting h target injection calls) d.desk night.fuller night.pass; holds = d.holds })

  -- before the fuller book: late or empty
  pub before_it : (t : ℕ) → last.moment < t → OffAir b setting h injection last t (frame_at (pane_of_journey b setting h target injection calls) t)
  before_it t past =
      let d = flies setting h injection b [] target injection (after clear (take clear injection)) calls (ready setting h injection b) in
      (the_night setting h injection b c [] injection last n k night).silent d.hand (pane_of_journey b setting h target injection calls) t d.desk past

  -- after it: only the plain walk under the fuller book
  pub after_it : (t : ℕ) (p : Vector) → frame_at (pane_of_night b c setting h target injection calls later) t ≡ frame.Current p → OnAir c setting h injection [] t p
  after_it t p e = (the_night setting h injection b c [] injection last n k night).shows renewed.hand (pane_of_night b c setting h target injection calls later) t p renewed.desk e
