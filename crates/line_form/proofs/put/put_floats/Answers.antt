-- `line_form::put::put_floats` meets its contract: k numbers take from k to 17·k bytes. Assumes nothing.
use Rattle.std.proofs.Common.{arith}
use Rattle.line_form.specs.Spelled.{real}
use Rattle.line_form.proofs.Spelling.{no_items, row_on}
use Rattle.line_form.proofs.put.put_floats.Goals as goal

pub loop-x-init : goal.loop-x-init
loop-x-init c = record { room = record { some = omega arith; fits = omega arith }; wrote = no_items _ _ }

pub loop-x-preserved : goal.loop-x-preserved
loop-x-preserved c = let g = c.loop-x.invariant in let s = c.put_float-at.ensures.room in
    record {
      room = record { some = omega (arith, s.some); fits = omega (arith, s.fits) };
      wrote = row_on real c.args.row.now c.loop-x.x-index _ (omega arith) g.wrote c.put_float-at.ensures.wrote;
    }
