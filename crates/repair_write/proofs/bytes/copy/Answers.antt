-- `repair_write::bytes::copy` meets its contract: after k turns the first k bytes are copied. Assumes nothing.
use native.Mathlib.Omega.{arith}
use mathlib.Core.Path.{ap, ◌∙◌}
use native.Mathlib.Numerals.{add-one}
use Prim.Native.Nat.{ℕ, ◌+◌}
use mathlib.Core.List.{List}
use lib.ListN.{get_or, drop, set, length-set, length-drop}
use lib.Seq.{paste-suc, get_or-drop}
use Rattle.repair_write.proofs.bytes.copy.Goals as goal

pub loop-k-preserved : goal.loop-k-preserved
loop-k-preserved c = let x = c.args in
    let l = c.loop-k in
    let behind = length-drop x.from x.input.now in record {
      size = simp length-set l.invariant.size;
      copied = rw (add-one l.k) (
          rw (← get_or-drop x.from x.input.now l.k 0) (ap (λ (o : List ℕ). set o (x.at + l.k) (get_or (drop x.from x.input.now) l.k 0)) l.invariant.copied)
          ∙ paste-suc x.out.now x.at (drop x.from x.input.now) l.k 0 (omega arith) (omega arith)
          );
    }
