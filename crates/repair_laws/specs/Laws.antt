-- Definitions for the laws of a repaired book.
use Prim
use Rattle.std.specs.Prelude.{ℕ, zero, suc, ◌<◌, false, List, [], ◌∷◌, ◌++◌, ◌⊎◌, ◌≡◌, length, get_or, set}
use Rattle.base.specs.Choice.{if◌then◌otherwise◌}
use Rattle.book.specs.Passes.{ascends}
use Rattle.repair_sort.specs.Fates.{overlapping, no_room}
use Rattle.repair_sort.specs.Reasons.{looked_at}
use Rattle.repair_sort.specs.Ordered.{ordered}
use Rattle.repair_choose.specs.Forward.{overlaps_last_of_body, has_room, forward}

-- a list of bytes: what a slice of u8 holds
abbrev pub Bytes : List ℕ → Type 0
Bytes b = (k : ℕ) → get_or b k 0 < 256

-- 0, 1, .. , n - 1: the entries of a book in their own order
abbrev pub up_to : ℕ → List ℕ
up_to zero = []
up_to (suc n) = up_to n ++ (n ∷ [])

-- every entry kept under its own number
abbrev pub numbered : ℕ → List ℕ → List ℕ
numbered zero fates = fates
numbered (suc n) fates = set (numbered n fates) n n

-- i is not in a list; i is in it exactly once
abbrev pub NotIn : ℕ → List ℕ → Type 0
NotIn i [] = Unit {0}
NotIn i (j ∷ js) = (i ≡ j → ⊥) × NotIn i js

abbrev pub Once : ℕ → List ℕ → Type 0
Once i [] = ⊥
Once i (j ∷ js) = ((i ≡ j) × NotIn i js) ⊎ ((i ≡ j → ⊥) × Once i js)

-- "The rest are put in order, equal keys by contents order": of any two, the second does not come before the first by its key. If the first
-- does not come before the second either, their keys are equal, and the first comes before it in the contents.
pub record Stable (b l : List ℕ) : Type 0 where
  pub by_key : (k m : ℕ) → k < m → m < length l → ascends b (get_or l m 0) (get_or l k 0) ≡ false
  pub by_contents : (k m : ℕ) → k < m → m < length l → ascends b (get_or l k 0) (get_or l m 0) ≡ false → get_or l k 0 < get_or l m 0

-- the entries kept in a forward pass that starts with none
abbrev pub kept_among : List ℕ → ℕ → List ℕ → List ℕ
kept_among b room before = (forward b room (record { kept = []; fates = [] }) before).kept

-- the fate of an entry in the forward pass, if `kept` are the ones kept so far: dropped for overlap, else kept under the next number if
-- there is room, else dropped for room
abbrev pub fate_after : List ℕ → ℕ → List ℕ → ℕ → ℕ
fate_after b room kept i =
    if overlaps_last_of_body b kept i then overlapping otherwise
    if has_room b room kept i then length kept otherwise no_room

-- entry i is in the order, and its fate follows from what is kept of the entries before it
pub record Settled (b : List ℕ) (room i fate : ℕ) : Type 0 where
  pub before : List ℕ
  pub behind : List ℕ
  pub order : ordered b (looked_at b) ≡ before ++ i ∷ behind
  pub fated : fate ≡ fate_after b room (kept_among b room before) i
