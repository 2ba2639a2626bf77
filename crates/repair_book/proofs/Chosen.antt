-- Which entries are kept, over the whole input. Assumes nothing.
use Prim.Native.Nat.{ℕ}
use mathlib.Core.List.{List}
use mathlib.Core.Path.{◌≡◌, refl}
use Rattle.repair_sort.specs.Reasons.{looked_at, reasons}
use Rattle.repair_sort.specs.Ordered.{ordered}
use Rattle.repair_sort.proofs.Inserted.{ordered_sorted}
use Rattle.repair_choose.specs.LastKept.{forward_by_last}
use Rattle.repair_choose.specs.Sized.{held}
use Rattle.repair_choose.proofs.Settled.{kept_free}
use Rattle.repair_choose.proofs.OwnBody.{last_is_enough}
use Rattle.repair_book.specs.Repaired.{repaired, kept_of}

module _ (b : List ℕ) (room : ℕ) where
  pub kept_of_lem : (fates : List ℕ) → (repaired b room fates).kept ≡ kept_of b room
  unfolding repaired
  kept_of_lem fates = kept_free b room _ _ (ordered b (looked_at b)) refl

  -- the entries in order, with their reasons, in a forward pass that starts with none. The code's pass by the last kept entry gives the
  -- same as the definition's by the last kept of its body.
  pub from_none : (kept fates outcome_of order : List ℕ) → outcome_of ≡ reasons b (looked_at b) fates → order ≡ ordered b (looked_at b)
      → forward_by_last b room (held kept 0 outcome_of) order ≡ repaired b room fates
  unfolding repaired
  from_none kept fates outcome_of order e f = rw (e, f) (last_is_enough b room (reasons b (looked_at b) fates) (ordered b (looked_at b)) (ordered_sorted b (looked_at b)))
