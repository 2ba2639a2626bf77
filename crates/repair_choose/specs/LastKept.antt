-- The pass as the code makes it: it compares an entry only with the last kept entry, of any body. For entries in order this gives the pass
-- of specs/Forward.antt. The law `last_is_enough` (proofs/OwnBody.antt) proves it.
use Rattle.std.specs.Prelude.{ℕ, List, [], ◌∷◌}
use Rattle.base.specs.Choice.{if◌then◌otherwise◌}
use Rattle.repair_sort.specs.Fates.{overlapping, no_room}
use Rattle.repair_choose.specs.Forward.{Sofar, overlaps_last, has_room, keep, let_go}

-- as `settle`, but by the last kept entry
unfoldable pub settle_by_last : List ℕ → ℕ → Sofar → ℕ → Sofar
settle_by_last b room s i =
    if overlaps_last b s.kept i then let_go overlapping s i otherwise
    if has_room b room s.kept i then keep s i otherwise let_go no_room s i

-- as `forward`, but by the last kept entry
abbrev pub forward_by_last : List ℕ → ℕ → Sofar → List ℕ → Sofar
forward_by_last b room s [] = s
forward_by_last b room s (i ∷ is) = forward_by_last b room (settle_by_last b room s i) is
