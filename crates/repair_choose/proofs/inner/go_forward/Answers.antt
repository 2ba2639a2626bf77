-- `repair_choose::inner::go_forward` meets its contract. The invariant: going on from here gives the whole result. Assumes nothing.
use native.Mathlib.Omega.{arith}
use Rattle.repair_sort.proofs.Sounds.{sound_at}
use Rattle.repair_choose.proofs.inner.go_forward.Goals as goal

pub settle_one-sofar-requires : goal.settle_one-sofar-requires
settle_one-sofar-requires c = let s =
    sound_at c.args.input.now
    c.args.order.now
    c.requires.input_len_bound.1 c.loop-i.i-index (omega arith) in
    let inside = s.inside in
    record { count_in_bounds = (omega arith, omega arith, omega arith, omega arith, omega arith, s); sized = c.loop-i.invariant.sized }
