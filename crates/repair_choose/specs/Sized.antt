-- How two arrays and three numbers represent the pass.
use Rattle.std.specs.Prelude.{ℕ, ◌-◌, ◌<◌, ◌≤◌, Bool, false, List, ◌≡◌, length, take, get_or}
use Rattle.base.specs.Choice.{if◌then◌otherwise◌, ◌=?◌}
use Rattle.book.specs.Passes.{overlaps}
use Rattle.repair_sort.specs.Held.{AllSound}
use Rattle.repair_write.specs.Anew.{book_length}
use Rattle.repair_choose.specs.Forward.{Sofar}

-- the first `count` of one array are kept; the other has the fates
abbrev pub held : List ℕ → ℕ → List ℕ → Sofar
held kept count fates = record { kept = take count kept; fates = fates }

-- how many are kept, the last of them, and the length of the book that holds them
pub record Sized (b : List ℕ) (room : ℕ) (kept : List ℕ) (count last booked : ℕ) : Type 0 where
  pub counted : count ≤ length kept
  pub latest : 0 < count → last ≡ get_or kept (count - 1) 0
  pub sound : AllSound b (take count kept)
  pub long : booked ≡ book_length b (take count kept)
  pub fits : booked ≤ room

-- whether entry i overlaps the last of `count` entries, if there is one
abbrev pub overlaps_at : List ℕ → ℕ → ℕ → ℕ → Bool
overlaps_at b count last i = if count =? 0 then false otherwise overlaps b last i
