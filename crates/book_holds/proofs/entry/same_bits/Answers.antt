-- `book_holds::entry::same_bits` meets its contract: the numbers are the same exactly if all their bytes are. Assumes nothing.
use native.Mathlib.Omega.{arith}
use Prim.Native.Nat.{◌*◌}
use Rattle.std.proofs.lemmas.Slice.Eq.{bytes_eq-Decides}
use Rattle.book_holds.proofs.Reaching.{tells, told}
use Rattle.book_holds.proofs.SameBytes.{Bytes, part, bits_of, bytes_of}
use Rattle.book_holds.proofs.entry.same_bits.Goals as goal

pub returns : goal.returns
returns c = let b = c.args.first.now in
    let d = c.args.second.now in
    let small : Bytes b = λ i. omega (arith, c.type_inv.first i) in
    let small' : Bytes d = λ i. omega (arith, c.type_inv.second i) in
    rw c.eq.ensures
    (tells _ (bits_of b d c.args.at c.args.place c.args.n) (bytes_of b d c.args.at c.args.place c.args.n small small' c.requires.0 c.requires.1) (told _ (bytes_eq-Decides (part d c.args.place (8 * c.args.n)) (part b c.args.at (8 * c.args.n)))))
