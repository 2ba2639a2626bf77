-- Lines compared whole, byte by byte. Assumes nothing.
use Prim.Native.Nat.{ℕ, ◌+◌, ◌≤◌}
use mathlib.Core.Bool.{Bool, true, false, cond, not, ◌&&◌}
use mathlib.Core.List.{List, [], ◌∷◌}
use mathlib.Core.Path.{◌≡◌, refl}
use native.Mathlib.Omega.{arith}
use lib.Dec.{eqb, ltb}
use lib.ListN.{length}
use lib.Pointwise.{pointwise}
use Rattle.std.specs.List.{position, position_or_len}
use Rattle.std.specs.Option.{unwrap_or}
use Rattle.std.proofs.lemmas.List.Recursion.{is_position_or_len}
use Rattle.std.proofs.lemmas.List.Sums.{prefix_len-le-length}
use Rattle.std.proofs.lemmas.Bool.Decides.{nat_tests}
use Rattle.std.specs.Prelude.{Some, None}
use Rattle.base.specs.Choice.{if◌then◌otherwise◌}
use Rattle.compare_report.specs.Report.{until_feed, same}

-- the first line is as long as the place of the first line feed says; without one it is the whole text
first_feed : (b : List ℕ) → length (until_feed b) ≡ position_or_len (λ x. eqb x 10) b
unfolding until_feed
first_feed = is_position_or_len (λ b. length (until_feed b)) (λ x. eqb x 10) refl (λ x xs. go (eqb x 10) x xs)
  where
    go : (t : Bool) (x : ℕ) (xs : List ℕ) → length (if t then [] otherwise x ∷ until_feed xs) ≡ cond t 0 (1 + length (until_feed xs))
    go true x xs = refl
    go false x xs = omega arith

pub feed_position : (b : List ℕ) → unwrap_or (position (λ x. eqb x 10) b) (length b) ≡ length (until_feed b)
feed_position b = rw (first_feed b) (picked (position_or_len (λ x. eqb x 10) b) (length b) (prefix_len-le-length (λ x. not (eqb x 10)) b))
  where
    picked : (k n : ℕ) → k ≤ n → unwrap_or (cond (ltb k n) (Some k) None) n ≡ k
    picked k n h = grind (arith, nat_tests)

pub same_pointwise : (a b : List ℕ) → same a b ≡ pointwise eqb a b
unfolding same
same_pointwise [] [] = refl
same_pointwise (x ∷ a) [] = refl
same_pointwise [] (y ∷ b) = refl
same_pointwise (x ∷ a) (y ∷ b) = go (eqb x y) (same_pointwise a b)
  where
    go : (t : Bool) → same a b ≡ pointwise eqb a b → (if t then same a b otherwise false) ≡ (t && pointwise eqb a b)
    go true later = later
    go false later = refl
