-- What follows for the input if an order was read. Assumes nothing.
use Prim.Native.Nat.{ℕ, ◌≤◌}
use mathlib.Core.Bool.{Bool, true, false}
use mathlib.Core.List.{List}
use mathlib.Core.Path.{◌≡◌, refl}
use native.Mathlib.Omega.{arith}
use borrow.Author.Tests.{ltb-false}
use lib.Dec.{ltb}
use lib.ListN.{length}
use Rattle.base.specs.declared.Refusal.{Refusal}
use Rattle.std.specs.Prelude.{Ok, Err}
use Rattle.base.specs.Choice.{if◌then◌otherwise◌}
use Rattle.strip_order.specs.Order.{order_length, order_of, read_order}
use Rattle.strip_order.specs.declared.Form.{Form}
use Rattle.strip_order.specs.declared.Form.TheVariants.{Plain, Whole}
use Rattle.strip_order.specs.declared.Order.{Order}

-- it is all there
pub order_there : (form : Form) (b : List ℕ) (o : Order) → read_order form b ≡ Ok o → order_length form ≤ length b
unfolding read_order
order_there form b o = go (ltb (length b) (order_length form)) refl
  where
    go : (t : Bool) → ltb (length b) (order_length form) ≡ t → (if t then Err Refusal.Book otherwise Ok (order_of form b)) ≡ Ok o → order_length form ≤ length b
    go true q e = let z : ◌≡◌ {A = ℕ} 0 1 = cc in absurd (omega arith)
    go false q e = ltb-false (length b) (order_length form) q

-- either order has at least document 01's 120 bytes
pub plain_there : (form : Form) (n : ℕ) → order_length form ≤ n → 120 ≤ n
plain_there Plain n h = h
plain_there Whole n h = omega arith

pub whole_there : (form : Form) (n : ℕ) → form ≡ Whole → order_length form ≤ n → 144 ≤ n
whole_there form n e h = rw e at h
