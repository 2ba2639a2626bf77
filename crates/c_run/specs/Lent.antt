-- The layout of groups of numbers in the caller's memory. Every array has the length that its type says, so reading an element never gives
-- the default 0.
use Rattle.std.specs.Prelude.{ℕ, List, [], ◌∷◌, get_or}
use Rattle.gravity.specs.declared.Guesses.{Guesses}
pub use Rattle.c_state.specs.Groups.{setting_of, no_extras, vector_of, injection_of, state_of, unkept_of, vector_in, start_in, coordinates_in, whole_in}

-- read: "one guess a body, 2 to 6"
abbrev pub guesses_of : List ℕ → Guesses
guesses_of g = record { moon = get_or g 0 0; sun = get_or g 1 0; venus = get_or g 2 0; mars = get_or g 3 0; jupiter = get_or g 4 0 }

abbrev pub guesses_in : Guesses → List ℕ
guesses_in g = g.moon ∷ g.sun ∷ g.venus ∷ g.mars ∷ g.jupiter ∷ []
