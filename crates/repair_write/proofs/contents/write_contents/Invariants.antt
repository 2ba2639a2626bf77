-- `repair_write::contents::write_contents` meets its contract. The invariant: the first k entries are written, and block k begins at `place`. Assumes nothing.
use mathlib.Core.Path.{◌≡◌}
use Prim.Native.Nat.{◌+◌}
use lib.ListN.{length, take}
use Rattle.book.specs.Contents.{entry_at}
use Rattle.repair_write.specs.Anew.{blocks_length, contents_anew, with_text}
use Rattle.repair_write.proofs.contents.write_contents.Given as goal

abbrev pub invariant-loop-k : goal.invariant-loop-k
invariant-loop-k l = record {
  next : l.place ≡ entry_at (length l.kept) + blocks_length l.input (take l.k l.kept);
  written : l.out ≡ with_text l.initial.out 8 (contents_anew l.input (entry_at (length l.kept)) (take l.k l.kept));
}
