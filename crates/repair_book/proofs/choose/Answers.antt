-- `repair_book::choose` meets its contract: the entries in order, going forward. Assumes nothing.
use native.Mathlib.Omega.{arith}
use mathlib.Core.Path.{◌∙◌}
use Prim.Native.Nat.{◌≤◌}
use lib.Seq.{length-take-le}
use Rattle.repair_sort.proofs.Sounds.{ordered_length, ordered_sound}
use Rattle.repair_book.proofs.Chosen.{from_none}
use Rattle.repair_book.proofs.choose.Goals as goal

pub go_forward-requires : goal.go_forward-requires
go_forward-requires c = let sorted = c.put_in_order-going in
    let looked = c.looked_at in let input = c.args.input in
    let f = (let few : c.put_in_order-going.result ≤ 2559 = omega (arith, c.put_in_order-going.ensures.in_order.counted, ordered_length c.args.input.now c.looked_at.result, c.looked_at.ensures) in few) in let l = sorted.auto.order in let m = sorted.auto.fates in
    let t = length-take-le sorted.result sorted.new.order (omega arith) in record { le_room = (omega arith, omega arith, omega arith, omega arith, omega arith); input_len_bound = (omega arith, rw sorted.ensures.in_order.entries (ordered_sound input.now looked.result (omega (arith, looked.ensures)))) }

pub returns : goal.returns
returns c = let n = c.looked_at.ensures in record {
  sized = c.go_forward.ensures.sized;
  fates_after = c.go_forward.ensures.fates_after
      ∙ from_none
      c.args.input.now
      c.args.room
      c.args.kept.now
      c.args.fates.now _ _
      (rw n at c.put_in_order-going.ensures.fates_after)
      (rw n at c.put_in_order-going.ensures.in_order.entries);
}
