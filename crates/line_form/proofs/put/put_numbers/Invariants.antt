-- `line_form::put::put_numbers` meets its contract: k numbers take from k to 21·k bytes. Assumes nothing.
use Rattle.std.proofs.Common.{◌*◌, take}
use Rattle.text_write.specs.Written.{Wrote}
use Rattle.line_form.specs.Room.{Between}
use Rattle.line_form.specs.Spelled.{spaced, wholes}
use Rattle.line_form.proofs.put.put_numbers.Given as goal

abbrev pub invariant-loop-n : goal.invariant-loop-n
invariant-loop-n l = record {
  room : Between l.from l.n-index (21 * l.n-index) l.at;
  wrote : Wrote l.initial.out l.from (spaced (wholes (take l.n-index l.row))) l.out l.at;
}
