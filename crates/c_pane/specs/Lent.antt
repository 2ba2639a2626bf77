-- (02, R-14) A pane as numbers in the caller's memory, and what a call that takes a state returns and writes there. Every array has the length
-- that its type says, so reading an element never gives the defaults nan and 0.
use Rattle.std.specs.Prelude.{ℕ, List, [], ◌∷◌, get_or, Float, Option, Some, None}
use Rattle.base.specs.Refusals.{number_of, refusal_of}
use Rattle.base.specs.declared.Refusal.{Refusal}
use Rattle.std.specs.Float.{nan}
use Rattle.base.specs.Choice.{if◌then◌otherwise◌, ◌=?◌}
use Rattle.base.specs.Floats.{zero64}
use Rattle.state.specs.declared.State.{State}
use Rattle.gravity.specs.declared.Guesses.{Guesses}
use Rattle.run.specs.declared.Outcome.{Outcome}
use Rattle.run.specs.declared.RunAnswer.{RunAnswer}
use Rattle.pane_live.specs.declared.Pane.{Pane}
use Rattle.pane_live.specs.declared.Pane.TheVariants.{Blank, One, Two}
use Rattle.pane_live.specs.declared.TakeAnswer.{TakeAnswer}
use Rattle.pane_live.specs.declared.TakeAnswer.TheVariants as taken
use Rattle.pane_live.specs.Pane.{feed}
use Rattle.c_answer.specs.Handed.{Handed, handed}
use Rattle.c_run.specs.Lent.{state_of}
use Rattle.c_run.specs.Answers.{going}

-- both places of a pane. The first has the number of states, then moment and centre of the older and of the newer; the second has the nine
-- coordinates of each.
pub record Kept : Type 0 where
  pub numbers : List ℕ
  pub places : List Float

abbrev pub kept_in : List ℕ → List Float → Kept
kept_in numbers places = record { numbers = numbers; places = places }

-- ---- reading a pane

abbrev pub older_of : List ℕ → List Float → State
older_of numbers places = state_of (get_or numbers 1 0) (get_or numbers 2 0) places

abbrev pub newer_of : List ℕ → List Float → State
newer_of numbers places =
    record {
      moment = get_or numbers 3 0;
      centre = get_or numbers 4 0;
      x = get_or places 9 nan;
      y = get_or places 10 nan;
      z = get_or places 11 nan;
      vx = get_or places 12 nan;
      vy = get_or places 13 nan;
      vz = get_or places 14 nan;
      ax = get_or places 15 nan;
      ay = get_or places 16 nan;
      az = get_or places 17 nan;
    }

-- two states, one, or none; if the memory gives another number of states, the pane is empty
abbrev pub pane_of : List ℕ → List Float → Pane
pane_of numbers places =
    if get_or numbers 0 0 =? 2 then Two (older_of numbers places) (newer_of numbers places) otherwise
    if get_or numbers 0 0 =? 1 then One (older_of numbers places) otherwise Blank

-- ---- writing a pane: zeros for a state that it does not hold

abbrev pub numbers_in : Pane → List ℕ
numbers_in Blank = 0 ∷ 0 ∷ 0 ∷ 0 ∷ 0 ∷ []
numbers_in (One a) = 1 ∷ a.moment ∷ a.centre ∷ 0 ∷ 0 ∷ []
numbers_in (Two a b) = 2 ∷ a.moment ∷ a.centre ∷ b.moment ∷ b.centre ∷ []

-- the nine coordinates of a state, before those that follow
abbrev pub whole_before : State → List Float → List Float
whole_before s rest = s.x ∷ s.y ∷ s.z ∷ s.vx ∷ s.vy ∷ s.vz ∷ s.ax ∷ s.ay ∷ s.az ∷ rest

abbrev pub nine_zeros : List Float → List Float
nine_zeros rest = zero64 ∷ zero64 ∷ zero64 ∷ zero64 ∷ zero64 ∷ zero64 ∷ zero64 ∷ zero64 ∷ zero64 ∷ rest

abbrev pub places_in : Pane → List Float
places_in Blank = nine_zeros (nine_zeros [])
places_in (One a) = whole_before a (nine_zeros [])
places_in (Two a b) = whole_before a (whole_before b [])

abbrev pub pane_in : Pane → Kept
pane_in pane = kept_in (numbers_in pane) (places_in pane)

-- ---- states taken

-- what a run returned: 0 arrived, 100 going, or a refusal number
abbrev pub refused_with : Option Refusal → Option (Outcome Refusal)
refused_with (Some refusal) = Some (Outcome.Refused refusal)
refused_with None = None

abbrev pub outcome_of : ℕ → Option (Outcome Refusal)
outcome_of returned =
    if returned =? 0 then Some Outcome.Arrived otherwise
    if returned =? going then Some Outcome.Going otherwise refused_with (refusal_of returned)

abbrev pub no_guesses : Guesses
no_guesses = record { moon = 0; sun = 0; venus = 0; mars = 0; jupiter = 0 }

-- the answer of a run without steps and guesses, which the pane does not read
abbrev pub flown : Outcome Refusal → State → RunAnswer Refusal
flown outcome s = record { outcome = outcome; steps = 0; state = s; guesses = no_guesses }

-- what the pane says to it. A number that no run returns changes nothing, as a refused run does.
abbrev pub fed_with_outcome : Pane → State → Option (Outcome Refusal) → TakeAnswer Refusal
fed_with_outcome pane s (Some outcome) = feed pane (flown outcome s)
fed_with_outcome pane s None = taken.Unchanged

abbrev pub fed_with : Pane → ℕ → State → TakeAnswer Refusal
fed_with pane returned s = fed_with_outcome pane s (outcome_of returned)

abbrev pub unchanged : ℕ
unchanged = 101

-- if a state is taken: 0 and the new pane. Otherwise 101 or the refusal number, and the memory is unchanged, even if it was not a valid
-- pane. The refusal may be any whose number is told.
abbrev pub left_by : {R : Type 0} → (R → ℕ) → Kept → TakeAnswer R → Handed Kept
left_by told before (taken.Taken next) = handed 0 (pane_in next)
left_by told before taken.Unchanged = handed unchanged before
left_by told before (taken.Refused k) = handed (told k) before

abbrev pub left : Kept → TakeAnswer Refusal → Handed Kept
left before answer = left_by number_of before answer
