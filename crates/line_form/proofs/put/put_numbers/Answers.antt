-- `line_form::put::put_numbers` meets its contract: k numbers take from k to 21·k bytes. Assumes nothing.
use Rattle.std.proofs.Common.{arith}
use Rattle.line_form.specs.Spelled.{whole}
use Rattle.line_form.proofs.Spelling.{no_items, row_on}
use Rattle.line_form.proofs.put.put_numbers.Goals as goal

pub loop-n-init : goal.loop-n-init
loop-n-init c = record { room = record { some = omega arith; fits = omega arith }; wrote = no_items _ _ }

pub loop-n-preserved : goal.loop-n-preserved
loop-n-preserved c = let g = c.loop-n.invariant in let s = c.put_number-at.ensures.room in
    record {
      room = record { some = omega (arith, s.some); fits = omega (arith, s.fits) };
      wrote = row_on whole c.args.row.now c.loop-n.n-index _ (omega arith) g.wrote c.put_number-at.ensures.wrote;
    }
