-- `repair_write::contents::write_contents` meets its contract. Assumes nothing.
use native.Mathlib.Omega.{arith}
use Rattle.repair_sort.proofs.Sounds.{sound_at}
use Rattle.repair_write.proofs.Books.{place_inside, place_further, entry_written}
use Rattle.repair_write.proofs.contents.write_contents.Goals as goal

pub write_entry-requires : goal.write_entry-requires
write_entry-requires c = let here = (sound_at c.args.input.now c.args.kept.now c.requires.0 c.loop-k.k (omega arith)).inside in
    let place = place_inside c.args.input.now c.args.kept.now c.loop-k.k (omega arith) in
    (omega arith, omega arith, omega arith)

pub size_of-requires : goal.size_of-requires
size_of-requires c = (sound_at c.args.input.now c.args.kept.now c.requires.0 c.loop-k.k (omega arith)).inside

pub overflow_add-place-in-loop-k : goal.overflow_add-place-in-loop-k
overflow_add-place-in-loop-k c = let place = place_inside c.args.input.now c.args.kept.now c.loop-k.k (omega arith) in
    omega arith

pub loop-k-preserved : goal.loop-k-preserved
loop-k-preserved c = let x = c.args in
    let l = c.loop-k in
    record {
      next = omega (arith, place_further x.input.now x.kept.now c.requires.0 l.k (omega arith), l.invariant.next);
      written =
          entry_written x.input.now x.kept.now
          c.requires.0 l.k (omega arith) x.out.now
          (omega arith) l.invariant.next l.invariant.written c.write_entry.ensures;
    }
