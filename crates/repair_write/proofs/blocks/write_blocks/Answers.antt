-- `repair_write::blocks::write_blocks` meets its contract. Assumes nothing.
use native.Mathlib.Omega.{arith}
use Rattle.repair_sort.proofs.Sounds.{sound_at}
use Rattle.repair_write.proofs.Books.{place_inside, place_further, block_written}
use Rattle.repair_write.proofs.blocks.write_blocks.Goals as goal

pub size_of-size-requires : goal.size_of-size-requires
size_of-size-requires c = (sound_at c.args.input.now c.args.kept.now c.requires.0 c.loop-i.i-index (omega arith)).inside

pub offset_of-requires : goal.offset_of-requires
offset_of-requires c = (sound_at c.args.input.now c.args.kept.now c.requires.0 c.loop-i.i-index (omega arith)).inside

pub copy-requires : goal.copy-requires
copy-requires c = let s = sound_at c.args.input.now c.args.kept.now c.requires.0 c.loop-i.i-index (omega arith) in
    let block = s.block in
    let place = place_inside c.args.input.now c.args.kept.now c.loop-i.i-index (omega arith) in
    (omega arith, omega arith)

pub overflow_add-place-in-loop-i : goal.overflow_add-place-in-loop-i
overflow_add-place-in-loop-i c = let place = place_inside c.args.input.now c.args.kept.now c.loop-i.i-index (omega arith) in
    omega arith

pub loop-i-preserved : goal.loop-i-preserved
loop-i-preserved c = let x = c.args in
    let l = c.loop-i in
    record {
      next = omega (arith, place_further x.input.now x.kept.now c.requires.0 l.i-index (omega arith), l.invariant.next);
      written =
          block_written x.input.now x.kept.now
          c.requires.0 l.i-index (omega arith) x.out.now
          (omega arith) l.invariant.next l.invariant.written
          (rw (c.size_of-size.ensures.0, c.offset_of.ensures.0) at c.copy.ensures);
    }
