-- Document 02, R-7: "One proof serves both orders, with the old one read as J and K zero". An old order is read as the new one that has 24
-- zero bytes behind the old 120. Assumes nothing.
use Prim.Native.Nat.{ℕ, ◌+◌, ◌≤◌}
use mathlib.Core.List.{List, ◌∷◌, ◌++◌}
use mathlib.Core.Path.{◌≡◌, refl, ap}
use native.Mathlib.Omega.{arith}
use borrow.Author.Tests.{le-ltb}
use lib.ListN.{length, get_or, length-append, get_or-append}
use lib.Seq.{get_or-append-add}
use Rattle.base_bytes.specs.Bytes.{u16_at, u32_at, u64_at}
use Rattle.strip_order.specs.Order.{order_of, read_order}
use Rattle.strip_order.specs.declared.Order.{Order}
use Rattle.strip_order.specs.declared.Form.TheVariants.{Plain, Whole}

-- J, A and K of zero, and what follows
abbrev pub zeros : List ℕ → List ℕ
zeros rest =
    0 ∷ 0 ∷ 0 ∷ 0 ∷ 0 ∷ 0 ∷ 0 ∷ 0 ∷ 0 ∷ 0 ∷ 0 ∷ 0 ∷ 0 ∷ 0 ∷ 0 ∷ 0 ∷ 0 ∷ 0 ∷ 0 ∷ 0 ∷ 0 ∷ 0 ∷ 0 ∷ 0 ∷ rest

module _ (order : List ℕ) (all : length order ≡ 120) where
  module _ (rest : List ℕ) where
    -- ---- a number within the order does not depend on what follows it

    front16 : (at : ℕ) → at + 2 ≤ 120 → u16_at (order ++ rest) at ≡ u16_at order at
    unfolding u16_at
    front16 at h = rw (get_or-append order rest 0 at (omega arith), get_or-append order rest 0 (at + 1) (omega arith))

    front32 : (at : ℕ) → at + 4 ≤ 120 → u32_at (order ++ rest) at ≡ u32_at order at
    unfolding u32_at
    front32 at h = rw (front16 at (omega arith), front16 (at + 2) (omega arith))

    front64 : (at : ℕ) → at + 8 ≤ 120 → u64_at (order ++ rest) at ≡ u64_at order at
    unfolding u64_at
    front64 at h = rw (front32 at (omega arith), front32 (at + 4) (omega arith))

    same : order_of Plain (order ++ rest) ≡ order_of Plain order
    same =
        rw (
          front64 0 (omega arith),
          front64 8 (omega arith),
          front64 16 (omega arith),
          front64 24 (omega arith),
          front64 32 (omega arith),
          front64 40 (omega arith),
          front64 48 (omega arith),
          front64 56 (omega arith),
          front64 64 (omega arith),
          front64 72 (omega arith),
          front64 80 (omega arith),
          front64 88 (omega arith),
          front64 96 (omega arith),
          front32 104 (omega arith),
          front32 108 (omega arith),
          front64 112 (omega arith),
        )

  module _ (rest : List ℕ) where
    -- ---- zeros follow it

    behind : (i at : ℕ) → at ≡ 120 + i → get_or (order ++ zeros rest) at 0 ≡ get_or (zeros rest) i 0
    behind i at e = rw (e, ← all) (get_or-append-add order (zeros rest) i 0)

    zero64_at : (i : ℕ) → get_or (zeros rest) i 0 ≡ 0 → get_or (zeros rest) (i + 1) 0 ≡ 0 → get_or (zeros rest) (i + 2) 0 ≡ 0
        → get_or (zeros rest) (i + 3) 0 ≡ 0 → get_or (zeros rest) (i + 4) 0 ≡ 0 → get_or (zeros rest) (i + 5) 0 ≡ 0
        → get_or (zeros rest) (i + 6) 0 ≡ 0 → get_or (zeros rest) (i + 7) 0 ≡ 0 → u64_at (order ++ zeros rest) (120 + i) ≡ 0
    unfolding u64_at u32_at u16_at
    zero64_at i a b c d e f g h =
        rw (
          behind i (120 + i) (omega arith),
          behind (i + 1) (120 + i + 1) (omega arith),
          behind (i + 2) (120 + i + 2) (omega arith),
          behind (i + 3) (120 + i + 2 + 1) (omega arith),
          behind (i + 4) (120 + i + 4) (omega arith),
          behind (i + 5) (120 + i + 4 + 1) (omega arith),
          behind (i + 6) (120 + i + 4 + 2) (omega arith),
          behind (i + 7) (120 + i + 4 + 2 + 1) (omega arith),
          a,
          b,
          c,
          d,
          e,
          f,
          g,
          h,
        )

    no_terms : order_of Whole (order ++ zeros rest) ≡ order_of Plain (order ++ zeros rest)
    no_terms =
        rw (
          zero64_at 0 refl refl refl refl refl refl refl refl,
          zero64_at 8 refl refl refl refl refl refl refl refl,
          zero64_at 16 refl refl refl refl refl refl refl refl,
        )

    pub old_as_new : read_order Plain (order ++ rest) ≡ read_order Whole (order ++ zeros rest)
    unfolding read_order
    old_as_new =
        rw (
          le-ltb (length (order ++ rest)) 120 (rw (length-append order rest, all) (omega arith)),
          le-ltb (length (order ++ zeros rest)) 144 (rw (length-append order (zeros rest), all) (omega arith)),
          no_terms,
          same rest,
          same (zeros rest),
        )
