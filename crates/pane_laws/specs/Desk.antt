-- The actions of a night desk, in any order and any number: with the states that it has in hand, the book in use, and the pane.
use Rattle.std.specs.Prelude.{true, List, [], ◌∷◌, ◌++◌, ◌⊎◌, ◌≡◌, ℕ, Ok}
use Rattle.state.specs.declared.State.{State}
use Rattle.state.specs.declared.Setting.{Setting}
use Rattle.book.specs.Passes.{passes}
use Rattle.gravity.specs.declared.Guesses.{Guesses}
use Rattle.run.specs.Run.{run_answer}
use Rattle.centre.specs.Move.{move_answer}
use Rattle.centre_laws.specs.Legs.{Move}
use Rattle.book_laws.specs.Fuller.{HoldsAll}
use Rattle.pane_live.specs.Pane.{take, feed, clear, after}
use Rattle.pane_live.specs.declared.Pane.{Pane}

-- a state that the desk has in hand
abbrev pub InHand : State → List State → Type 0
InHand s [] = ⊥
InHand s (first ∷ rest) = (s ≡ first) ⊎ InHand s rest

-- A desk after some history: the book in use, the moves made so far, the states in hand, and the pane. It keeps to one setting, one step
-- length h and one injection.
pub data Desk (setting : Setting) (h : ℕ) (injection : State) : List ℕ → List Move → List State → Pane → Type 0 where
  -- it begins with the injection in hand and an empty pane
  begins : (b : List ℕ) → Desk setting h injection b [] (injection ∷ []) clear
  -- it runs from any state in hand, toward any target, with any budget and guesses, and feeds the answer to the pane
  runs : (b : List ℕ) (made : List Move) (hand : List State) (pane : Pane) (s : State) (target budget : ℕ) (given : Guesses)
      → Desk setting h injection b made hand pane → InHand s hand
      → Desk setting h injection b made ((run_answer b setting s h target budget given).state ∷ hand)
      (after pane (feed pane (run_answer b setting s h target budget given)))
  -- or it does not feed the answer
  tries : (b : List ℕ) (made : List Move) (hand : List State) (pane : Pane) (s : State) (target budget : ℕ) (given : Guesses)
      → Desk setting h injection b made hand pane → InHand s hand
      → Desk setting h injection b made ((run_answer b setting s h target budget given).state ∷ hand) pane
  -- it offers a state in hand to the pane
  offers : (b : List ℕ) (made : List Move) (hand : List State) (pane : Pane) (s : State) → Desk setting h injection b made hand pane → InHand s hand
      → Desk setting h injection b made hand (after pane (take pane s))
  -- it clears the pane
  clears : (b : List ℕ) (made : List Move) (hand : List State) (pane : Pane) → Desk setting h injection b made hand pane
      → Desk setting h injection b made hand clear
  -- it takes a fuller book: one that passes, and "holds every entry of the first with the same coefficients"
  renews : (b c : List ℕ) (made : List Move) (hand : List State) (pane : Pane) → Desk setting h injection b made hand pane
      → HoldsAll b c → passes c ≡ true → Desk setting h injection c made hand pane
  -- it moves a state in hand to another centre; it then drops every other state in hand and clears the pane. A refused move changes nothing.
  moves : (b : List ℕ) (made : List Move) (hand : List State) (pane : Pane) (s next : State) (centre : ℕ)
      → Desk setting h injection b made hand pane → InHand s hand → move_answer b setting s centre ≡ Ok next
      → Desk setting h injection b (made ++ (record { at = s.moment; centre = centre } ∷ [])) (next ∷ []) clear
