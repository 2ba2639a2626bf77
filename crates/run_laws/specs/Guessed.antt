-- Document 01, "The step and the run": "If steps were done, each used body's returned guess is the entry covering the returned moment;
-- all other guesses come back as given."
use Rattle.std.specs.Prelude.{Bool, true, false, List, ◌≡◌, ℕ, Float, Some}
use Rattle.state.specs.State.{used, looked_up}
use Rattle.state.specs.declared.Setting.{Setting}
use Rattle.book.specs.Lookup.{lookup}
use Rattle.gravity.specs.declared.Guesses.{Guesses}

-- one body, by its number, its coefficient m and whether it is lit: document 02, R-7, with K above 0 the Sun counts as used
pub record Guess (b : List ℕ) (t number : ℕ) (m : Float) (lit : Bool) (given returned : ℕ) : Type 0 where
  pub covering : looked_up m lit ≡ true → lookup b number t ≡ Some returned
  pub other : looked_up m lit ≡ false → returned ≡ given

pub record AllGuessed (b : List ℕ) (s : Setting) (t : ℕ) (given returned : Guesses) : Type 0 where
  pub moon : Guess b t 2 s.moon false given.moon returned.moon
  pub sun : Guess b t 3 s.sun (used s.k) given.sun returned.sun
  pub venus : Guess b t 4 s.venus false given.venus returned.venus
  pub mars : Guess b t 5 s.mars false given.mars returned.mars
  pub jupiter : Guess b t 6 s.jupiter false given.jupiter returned.jupiter
