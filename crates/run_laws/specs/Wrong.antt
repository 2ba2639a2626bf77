-- Document 01, "What the desk may hold each call to": "Try these against the promises". The six wrong runs that it names, each defined by
-- its answer to every input.
use Rattle.base.specs.declared.Refusal.{Refusal}
use Rattle.std.specs.Prelude.{List, [], ◌∷◌, ◌≡◌, ℕ, ◌+◌, ◌*◌, ◌≤◌, Ok}
use Rattle.std.specs.Float.Ieee.{neg}
use Rattle.base.specs.Floats.{whole}
use Rattle.state.specs.State.{position, velocity}
use Rattle.state.specs.declared.State.{State}
use Rattle.state.specs.declared.Setting.{Setting}
use Rattle.gravity.specs.declared.Guesses.{Guesses}
use Rattle.run_checks.specs.Start.{start_checks}
use Rattle.run.specs.Step.{step}
use Rattle.run.specs.Run.{handed_back, run_answer}
use Rattle.run.specs.declared.Outcome.TheVariants.{Arrived, Going, Refused}
use Rattle.run.specs.declared.RunAnswer.{RunAnswer}

-- a run call: book, setting, state, h, target, budget and guesses to an answer
abbrev pub RunCall : Type 0
RunCall = List ℕ → Setting → State → ℕ → ℕ → ℕ → Guesses → RunAnswer Refusal

-- the promise of `run`, for every input
abbrev pub Promised : RunCall → Type 0
Promised call =
    (b : List ℕ) (setting : Setting) (s : State) (h target budget : ℕ) (given : Guesses)
    → call b setting s h target budget given ≡ run_answer b setting s h target budget given

-- "a run refusing everything"
abbrev pub RefusesEverything : RunCall → Type 0
RefusesEverything call =
    (b : List ℕ) (setting : Setting) (s : State) (h target budget : ℕ) (given : Guesses)
    → (k : Refusal) × ((call b setting s h target budget given).outcome ≡ Refused k)

-- "one answering a constant"
abbrev pub AnswersAConstant : RunCall → Type 0
AnswersAConstant call =
    (c : RunAnswer Refusal)
    × ((b : List ℕ) (setting : Setting) (s : State) (h target budget : ℕ) (given : Guesses) → call b setting s h target budget given ≡ c)

-- "one handing its state back as 'arrived'", whenever the checks pass
abbrev pub OwnStateAsArrived : RunCall → Type 0
OwnStateAsArrived call =
    (b : List ℕ) (setting : Setting) (s : State) (h target budget : ℕ) (given : Guesses) → start_checks b setting s h target ≡ Ok tt
    → call b setting s h target budget given ≡ handed_back Arrived 0 s given

-- "and one handing it back as 'going'"
abbrev pub OwnStateAsGoing : RunCall → Type 0
OwnStateAsGoing call =
    (b : List ℕ) (setting : Setting) (s : State) (h target budget : ℕ) (given : Guesses) → start_checks b setting s h target ≡ Ok tt
    → call b setting s h target budget given ≡ handed_back Going 0 s given

-- "one that walks its first step and afterwards only moves the clock": after two steps or more, position and velocity are those after the
-- first
abbrev pub OnlyTheClock : RunCall → Type 0
OnlyTheClock call =
    (b : List ℕ) (setting : Setting) (s first : State) (h target budget : ℕ) (given : Guesses) → step b setting h s ≡ Ok first
    → 1 ≤ (call b setting s h target budget given).steps
    → (position (call b setting s h target budget given).state ≡ position first)
    × (velocity (call b setting s h target budget given).state ≡ velocity first)

-- "an invented step count": on some input returned moment = given moment + count·h does not hold
pub record InventsACount (call : RunCall) : Type 0 where
  pub b : List ℕ
  pub setting : Setting
  pub s : State
  pub h : ℕ
  pub target : ℕ
  pub budget : ℕ
  pub given : Guesses
  pub invented : (call b setting s h target budget given).state.moment ≡ s.moment + (call b setting s h target budget given).steps * h → ⊥

-- document 01's own example, which contradicts each of them: "Earth 8, others 0, moment 0, position (2, 0, 0), velocity (0, 4, 0), h 1000,
-- DUT 0 .. and the book 08 00 00 00 00 00 00 00"
abbrev pub example_book : List ℕ
example_book = 8 ∷ 0 ∷ 0 ∷ 0 ∷ 0 ∷ 0 ∷ 0 ∷ 0 ∷ []

abbrev pub example_setting : Setting
example_setting =
    record { earth = whole 8; moon = whole 0; sun = whole 0; venus = whole 0; mars = whole 0; jupiter = whole 0; dut = 0; j = whole 0; a = whole 0; k = whole 0; rule = 0 }

-- with the acceleration that the rule gives it
abbrev pub example_state : State
example_state = record { moment = 0; centre = 1; x = whole 2; y = whole 0; z = whole 0; vx = whole 0; vy = whole 4; vz = whole 0; ax = neg (whole 2); ay = neg (whole 0); az = neg (whole 0) }

abbrev pub example_h : ℕ
example_h = 1000

abbrev pub no_guesses : Guesses
no_guesses = record { moon = 0; sun = 0; venus = 0; mars = 0; jupiter = 0 }
