-- `text_read::read_number` meets its contract: the digits from the place up to i are read, and spell n. Assumes nothing.
use Prim.Native.Nat.{◌-◌}
use lib.ListN.{drop}
use Rattle.text_read.specs.Fields.{until_space}
use Rattle.text_read.proofs.Reading.{Reads}
use Rattle.text_read.proofs.read_number.Given as goal

abbrev pub invariant-loop-i : goal.invariant-loop-i
invariant-loop-i l = Reads l.base (until_space (drop l.at l.bytes)) (until_space (drop l.i l.bytes)) l.n (l.i - l.at)
