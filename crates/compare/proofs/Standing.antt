-- The stage of the program between two blocks. Assumes nothing.
use Rattle.std.proofs.Common.{◌≡◌, ℕ, ◌≤◌, Bool, false, List, length, take, sym, refl, ◌∙◌, subst, arith, length-take-le}
use Rattle.listing_read.specs.declared.Judge.{Judge}
use Rattle.listing_read.specs.Bytes.{at_top, Counted}
use Rattle.compare_lines.specs.declared.Stage.{Stage}
use Rattle.compare_lines.specs.Stages.{place_of, Room}
use Rattle.compare_blocks.specs.declared.Reading.{Reading}
use Rattle.compare_blocks.specs.Sides.{Shut, going_on}
use Rattle.compare_blocks.proofs.Readings.{going_on_shut}

top_counted : Counted at_top
top_counted = record { lines = omega arith; states = omega arith; start = omega arith; fresh = refl }

pub counted : (j : Judge) → j ≡ at_top → Counted j
counted j e = subst Counted (sym e) top_counted

-- the blocks, whose first n and m bytes are read, and the readings in them
pub record Blocks (a b out : List ℕ) (n m : ℕ) (first second : Reading) : Type 0 where
  pub a_size : length a ≡ 65_536
  pub b_size : length b ≡ 65_536
  pub out_size : length out ≡ 65_536
  pub n_fits : n ≤ 65_536
  pub m_fits : m ≤ 65_536
  pub first_shut : Shut n first
  pub second_shut : Shut m second

pub part_shut : (xs : List ℕ) (n : ℕ) (r : Reading) → n ≤ length xs → Shut n r → Shut (length (take n xs)) r
part_shut xs n r h s = rw (length-take-le n xs h) s

-- the next block, or the one that was there
pub next_shut : (xs : List ℕ) (n m : ℕ) (wanted : Bool) (r s : Reading) → n ≤ length xs → Shut (length (take n xs)) r → (wanted ≡ false → m ≡ n) → s ≡ going_on wanted r m → Shut m s
next_shut xs n m wanted r s h shut same e = rw e (going_on_shut wanted r m (length (take n xs)) shut (λ f. same f ∙ sym (length-take-le n xs h)))

-- the buffers of two lines, and room for a turn of them
pub record Sizes (a b out : List ℕ) : Type 0 where
  pub a_size : length a ≡ 4_096
  pub b_size : length b ≡ 4_096
  pub out_size : length out ≡ 65_536

pub room : (s : Stage) (d n m : ℕ) (a b out : List ℕ) → d ≡ place_of s → d ≤ 0x4000_0000_0000_0000 → n ≤ length a → m ≤ length b → Sizes a b out
    → Room s (length (take n a)) (length (take m b)) (length out)
room s d n m a b out e h k l z =
    let p = length-take-le n a k in
    let q = length-take-le m b l in
    let x = z.a_size in
    let y = z.b_size in
    let w = z.out_size in
    (omega arith, omega arith)
