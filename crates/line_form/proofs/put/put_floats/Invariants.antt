-- `line_form::put::put_floats` meets its contract: k numbers take from k to 17·k bytes. Assumes nothing.
use Rattle.std.proofs.Common.{◌*◌, take}
use Rattle.text_write.specs.Written.{Wrote}
use Rattle.line_form.specs.Room.{Between}
use Rattle.line_form.specs.Spelled.{spaced, reals}
use Rattle.line_form.proofs.put.put_floats.Given as goal

abbrev pub invariant-loop-x : goal.invariant-loop-x
invariant-loop-x l = record {
  room : Between l.from l.x-index (17 * l.x-index) l.at;
  wrote : Wrote l.initial.out l.from (spaced (reals (take l.x-index l.row))) l.out l.at;
}
