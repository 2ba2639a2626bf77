-- (02, R-14) A pane in memory, fed with flights through the calls for C and Rust.
use Rattle.std.specs.Prelude.{List, [], ◌∷◌, Bool, ◌||◌, ℕ}
use Rattle.base.specs.Choice.{◌=?◌}
use Rattle.c_run.specs.Lent.{state_of}
use Rattle.c_run.specs.Answers.{RunMemory}
use Rattle.c_pane.specs.Lent.{Kept, pane_of, fed_with, unchanged, left}
use Rattle.belfry_pane.specs.Answers.{late, empty}

-- the memory of the pane after flights about a centre, one after the other: each flight's memory is fed
abbrev pub fed_in : ℕ → Kept → List RunMemory → Kept
fed_in centre kept [] = kept
fed_in centre kept (m ∷ ms) =
    fed_in centre (left kept (fed_with (pane_of kept.numbers kept.places) m.returned (state_of m.moment centre m.coordinates))).memory ms

-- what the call returns for an offered state: 0 if it is taken, 18 if it is refused; for a run's answer also 101
abbrev pub taken_or18 : ℕ → Bool
taken_or18 k = k =? 0 || k =? 18

abbrev pub fed_or18 : ℕ → Bool
fed_or18 k = k =? unchanged || taken_or18 k

-- what a frame returns: 0 for current, 102 late, 103 empty, or 7
abbrev pub frame_told : ℕ → Bool
frame_told k = k =? 0 || k =? late || k =? empty || k =? 7
