-- Document 02, R-10: "then, going forward, one that overlaps the last kept of its body is dropped, then one for which the output has
-- no room. Nothing else is dropped".
use Rattle.std.specs.Prelude.{ℕ, ◌-◌, Bool, false, List, [], ◌∷◌, ◌++◌, length, get_or, set}
use Rattle.base.specs.Choice.{if◌then◌otherwise◌, ◌≤?◌, ◌=?◌}
use Rattle.book.specs.Contents.{body_of}
use Rattle.book.specs.Passes.{overlaps}
use Rattle.repair_sort.specs.Fates.{overlapping, no_room}
use Rattle.repair_write.specs.Anew.{book_length}

-- how far the pass is: the entries kept, in their new order, and the fates so far
pub record Sofar : Type 0 where
  pub kept : List ℕ
  pub fates : List ℕ

-- the entries of a list that have this body, in their order
abbrev pub of_body : List ℕ → ℕ → List ℕ → List ℕ
of_body b body [] = []
of_body b body (j ∷ js) = if body_of b j =? body then j ∷ of_body b body js otherwise of_body b body js

-- whether entry i overlaps the last entry of a list; if the list is empty, it does not
abbrev pub overlaps_last : List ℕ → List ℕ → ℕ → Bool
overlaps_last b l i = if length l =? 0 then false otherwise overlaps b (get_or l (length l - 1) 0) i

-- "one that overlaps the last kept of its body"
abbrev pub overlaps_last_of_body : List ℕ → List ℕ → ℕ → Bool
overlaps_last_of_body b kept i = overlaps_last b (of_body b (body_of b i) kept) i

-- the book with one entry more is not longer than the room
abbrev pub has_room : List ℕ → ℕ → List ℕ → ℕ → Bool
has_room b room kept i = book_length b (kept ++ (i ∷ [])) ≤? room

abbrev pub keep : Sofar → ℕ → Sofar
keep s i = record { kept = s.kept ++ (i ∷ []); fates = set s.fates i (length s.kept) }

abbrev pub let_go : ℕ → Sofar → ℕ → Sofar
let_go why s i = record { kept = s.kept; fates = set s.fates i why }

-- overlap first, then room
unfoldable pub settle : List ℕ → ℕ → Sofar → ℕ → Sofar
settle b room s i =
    if overlaps_last_of_body b s.kept i then let_go overlapping s i otherwise
    if has_room b room s.kept i then keep s i otherwise let_go no_room s i

-- the entries of a list, one after the other
abbrev pub forward : List ℕ → ℕ → Sofar → List ℕ → Sofar
forward b room s [] = s
forward b room s (i ∷ is) = forward b room (settle b room s i) is
