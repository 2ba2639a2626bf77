-- Numbers of which each is below the next are those of entries in the order of the contents. Assumes nothing.
use Prim.Native.Nat.{ℕ, ◌+◌, ◌-◌}
use mathlib.Core.Bool.{Bool, true, false}
use mathlib.Core.List.{List}
use mathlib.Core.Path.{◌≡◌, sym}
use native.Mathlib.Omega.{arith}
use lib.ListN.{length, get_or}
use Rattle.std.specs.List.{IsAllAdjacentAnswer}
use Rattle.base.specs.Choice.{◌<?◌}
use Rattle.base.proofs.Bools.{is_false, clash}
use Rattle.book.proofs.Below.{every, every_back}
use Rattle.repair_book.specs.Report.{as_in_contents}

pub rising : (kept : List ℕ) (r : Bool) → IsAllAdjacentAnswer (λ x y b. b ≡ (x <? y)) kept r → r ≡ as_in_contents kept
rising kept true h = sym (every_back (length kept - 1) (λ k. get_or kept k 0 <? get_or kept (k + 1) 0) (λ k l. sym (h k 0 (omega arith))))
rising kept false h = sym (is_false _ (λ t. clash (every (length kept - 1) (λ k. get_or kept k 0 <? get_or kept (k + 1) 0) t h.0 (omega arith)) (sym (h.2 0))))
