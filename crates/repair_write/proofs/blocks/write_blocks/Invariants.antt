-- `repair_write::blocks::write_blocks` meets its contract. The invariant: the blocks so far are written, and the next one begins at `place`. Assumes nothing.
use mathlib.Core.Path.{◌≡◌}
use Prim.Native.Nat.{◌+◌}
use lib.ListN.{length, take}
use Rattle.book.specs.Contents.{entry_at}
use Rattle.repair_write.specs.Anew.{blocks_length, blocks_anew, with_text}
use Rattle.repair_write.proofs.blocks.write_blocks.Given as goal

abbrev pub invariant-loop-i : goal.invariant-loop-i
invariant-loop-i l = record {
  next : l.place ≡ entry_at (length l.kept) + blocks_length l.input (take l.i-index l.kept);
  written : l.out ≡ with_text l.initial.out (entry_at (length l.kept)) (blocks_anew l.input (take l.i-index l.kept));
}
