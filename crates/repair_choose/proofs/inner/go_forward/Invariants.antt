-- `repair_choose::inner::go_forward` meets its contract. The invariant: going on from here gives the whole result. Assumes nothing.
use mathlib.Core.Path.{◌≡◌}
use Prim.Native.Nat.{◌≤◌}
use lib.ListN.{drop}
use Rattle.repair_choose.specs.LastKept.{forward_by_last}
use Rattle.repair_choose.specs.Sized.{held, Sized}
use Rattle.repair_choose.proofs.inner.go_forward.Given as goal

abbrev pub invariant-loop-i : goal.invariant-loop-i
invariant-loop-i l = record {
  counted : l.sofar.count ≤ l.i-index;
  sized : Sized l.input l.room l.kept l.sofar.count l.sofar.last l.sofar.length;
  ahead : forward_by_last l.input l.room (held l.kept l.sofar.count l.fates) (drop l.i-index l.order) ≡ forward_by_last l.input l.room (held l.initial.kept 0 l.initial.fates) l.order;
}
