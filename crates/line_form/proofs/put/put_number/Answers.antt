-- `line_form::put::put_number` meets its contract. Assumes nothing.
use native.Mathlib.Omega.{arith}
use Rattle.line_form.specs.Spelled.{whole}
use Rattle.line_form.proofs.Lengths.{number_short}
use Rattle.line_form.proofs.Spelling.{one_item}
use Rattle.line_form.proofs.put.put_number.Goals as goal

pub put_decimal-at-requires : goal.put_decimal-at-requires
put_decimal-at-requires c = omega (arith, number_short c.args.number c.ranges.number)

pub bounds-out-at : goal.bounds-out-at
bounds-out-at c = omega (arith, number_short c.args.number c.ranges.number, c.put_decimal-at.ensures.next)

pub returns : goal.returns
returns c = let short = number_short c.args.number c.ranges.number in let e = c.put_decimal-at.ensures in
    record { wrote = one_item (whole _) e (omega (arith, short, e.next)); room = record { some = omega (arith, short, e.next); fits = omega (arith, short, e.next) } }
