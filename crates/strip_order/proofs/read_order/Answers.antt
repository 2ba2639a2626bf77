-- `strip_order::read_order` meets its contract. Assumes nothing.
use borrow.Author.Tests.{lt-ltb, le-ltb}
use Rattle.strip_order.specs.Order.{read_order}
use Rattle.strip_order.proofs.read_order.Goals as goal

pub returns-then-input-order_length : goal.returns-then-input-order_length
unfolding read_order
returns-then-input-order_length c = rw (← c.order_length.ensures, lt-ltb _ _ c.if-input-order_length.true)

pub returns : goal.returns
unfolding read_order
returns c = rw (← c.order_length.ensures, le-ltb _ _ c.if-input-order_length.false, c.order_of.ensures)
