-- An order that was read is followed by the book.
use Rattle.std.proofs.Common.{sym, ◌∙◌}
use Rattle.strip_order.proofs.Reading.{order_there}
use Rattle.strip_lines.proofs.print_strip.Goals as goal

pub slice_bounds-print_order-count : goal.slice_bounds-print_order-count
slice_bounds-print_order-count g c =
    rw c.order_length-from.ensures (order_there c.args.form _ _ (sym c.read_order.ensures ∙ c.in-Ok.is))

pub slice_bounds-print_order-start : goal.slice_bounds-print_order-start
slice_bounds-print_order-start g c = slice_bounds-print_order-count g c
