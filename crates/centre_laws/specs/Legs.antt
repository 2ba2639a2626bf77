-- Demand 3, as document 02's R-6 reads it: "walks in which moves stand at named moments, each the target of the calls before it".
use Rattle.base.specs.declared.Refusal.{Refusal}
use Rattle.std.specs.Prelude.{List, [], ◌∷◌, ◌++◌, ◌≡◌, ℕ, ◌-◌, ◌/◌, Ok, Err}
use Rattle.state.specs.declared.State.{State}
use Rattle.state.specs.declared.Setting.{Setting}
use Rattle.run_checks.specs.Start.{start_checks}
use Rattle.run.specs.Step.{Moved, step}
use Rattle.run.specs.Walk.{onward, walk}
use Rattle.run_laws.specs.Journey.{Call, journey, after, AllHold}
use Rattle.centre.specs.Move.{move_answer}

-- a move at a named moment
pub record Move : Type 0 where
  pub at : ℕ
  pub centre : ℕ

-- a leg of a journey: any calls toward a target, and the move made there
pub record Leg : Type 0 where
  pub target : ℕ
  pub calls : List Call
  pub centre : ℕ

abbrev pub move_after : Leg → Move
move_after leg = record { at = leg.target; centre = leg.centre }

abbrev pub moves_of : List Leg → List Move
moves_of [] = []
moves_of (leg ∷ legs) = move_after leg ∷ moves_of legs

module _ (b : List ℕ) (setting : Setting) (h : ℕ) where
  -- the plain walk, step by step, to a moment
  abbrev pub walk_to : ℕ → State → Moved
  walk_to t s = walk (step b setting h) ((t - s.moment) / h) s

  -- a move as a step of the walk: the moved state, or its refusal
  abbrev pub moving : Move → State → Moved
  moving move s = move_answer b setting s move.centre

  -- the plain walk with its moves: step by step to each named moment, then the move
  unfoldable pub walk_with_moves : List Move → State → Moved
  walk_with_moves [] s = Ok s
  walk_with_moves (move ∷ moves) s = onward (walk_with_moves moves) (onward (moving move) (walk_to move.at s))

  -- one move of that walk: made at its named moment, which the moved state keeps, about the new centre
  pub record MoveStands (s : State) (move : Move) (next : State) : Type 0 where
    pub before : State
    pub walked : walk_to move.at s ≡ Ok before
    pub at : before.moment ≡ move.at
    pub moved : move_answer b setting before move.centre ≡ Ok next
    pub moment : next.moment ≡ move.at
    pub centre : next.centre ≡ move.centre

  -- every move of it, one after the other
  pub data MovesStand : State → List Move → State → Type 0 where
    none : (s : State) → MovesStand s [] s
    one : (s next last : State) (move : Move) (moves : List Move) → MoveStands s move next → MovesStand next moves last
        → MovesStand s (move ∷ moves) last

  -- what the calls of a leg require of the state that they start from: their checks pass. A leg without calls requires nothing, not even of
  -- the stored acceleration:
  -- R-8, "a move does not read it"
  abbrev pub MayFly : State → ℕ → List Call → Type 0
  MayFly s target [] = Unit {0}
  MayFly s target (call ∷ calls) = start_checks b setting s h target ≡ Ok tt

  -- legs flown from one state to another: the calls of each arrive at its target, and its move is accepted
  pub data Flown : State → List Leg → State → Type 0 where
    no_leg : (s : State) → Flown s [] s
    leg : (s next last : State) (l : Leg) (legs : List Leg) → MayFly s l.target l.calls
        → (after b setting h l.target s l.calls).moment ≡ l.target
        → move_answer b setting (after b setting h l.target s l.calls) l.centre ≡ Ok next
        → Flown next legs last → Flown s (l ∷ legs) last

  -- the calls of a leg that follows these legs: they start from the state that the plain walk with its moves reaches. Each move of that
  -- walk is at its named moment. As demand 3 says, every answer is that of the plain walk from there.
  pub record LegHolds (injection : State) (before : List Leg) (target : ℕ) (calls : List Call) : Type 0 where
    pub start : State
    pub walked : walk_with_moves (moves_of before) injection ≡ Ok start
    pub moves : MovesStand injection (moves_of before) start
    pub holds : AllHold (step b setting h) start h target 0 calls (journey b setting h target start calls)

  -- a leg whose move is refused with k, "the number alone". The state before the move is that of the plain walk at the target, and it is
  -- the last state of the calls. The walk with its moves ends there.
  pub record MoveRefused (injection : State) (before : List Leg) (l : Leg) (k : Refusal) : Type 0 where
    pub start : State
    pub walked : walk_with_moves (moves_of before) injection ≡ Ok start
    pub there : walk_to l.target start ≡ Ok (after b setting h l.target start l.calls)
    pub at : (after b setting h l.target start l.calls).moment ≡ l.target
    pub off : walk_with_moves (moves_of before ++ (move_after l ∷ [])) injection ≡ Err k
