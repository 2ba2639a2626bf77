-- Two runs of bytes are the same exactly if the numbers of 8 bytes in them are. Assumes nothing.
use Prim.Native.Nat.{ℕ, ◌+◌, ◌-◌, ◌*◌, ◌/◌, ◌%◌, ◌<◌, ◌≤◌}
use mathlib.Core.List.{List}
use mathlib.Core.Logic.{⊎_elim}
use mathlib.Core.Path.{◌≡◌, sym, ◌∙◌}
use lib.ListN.{length, get_or, take, drop}
use native.Mathlib.Omega.{arith}
use Rattle.std.proofs.lemmas.List.{get_or-take, get_or-drop, length-take, length-drop}
use Rattle.std.proofs.lemmas.Grind.{same_number_lists}
use Rattle.base_bytes.specs.Bytes.{u16_at, u32_at, u64_at}
use Rattle.book_holds.specs.Walk.{SameBits}
use Rattle.book_holds.proofs.Reaching.{below_or_not}

-- m elements from a place on, as a slice has them
abbrev pub part : List ℕ → ℕ → ℕ → List ℕ
part b at m = take (at + m - at) (drop at b)

read : (b : List ℕ) (at m k : ℕ) → k < m → get_or (part b at m) k 0 ≡ get_or b (at + k) 0
read b at m k l = get_or-take (at + m - at) (drop at b) k 0 (omega arith) ∙ get_or-drop at b k 0

abbrev pub Bytes : List ℕ → Type 0
Bytes b = (i : ℕ) → get_or b i 0 < 256

u16_small : (b : List ℕ) → Bytes b → (at : ℕ) → u16_at b at < 65_536
unfolding u16_at
u16_small b small at = omega (arith, small at, small (at + 1))

u32_small : (b : List ℕ) → Bytes b → (at : ℕ) → u32_at b at < 4_294_967_296
unfolding u32_at
u32_small b small at = omega (arith, u16_small b small at, u16_small b small (at + 2))

module _ (b c : List ℕ) where
  -- the m elements of c from p on and those of b from a on
  abbrev Agree : ℕ → ℕ → ℕ → Type 0
  Agree p a m = (x y i : ℕ) → i < m → x ≡ p + i → y ≡ a + i → get_or c x 0 ≡ get_or b y 0

  inner : (p a m d k : ℕ) → d + k ≤ m → Agree p a m → Agree (p + d) (a + d) k
  inner p a m d k l h x y i less e f = h x y (d + i) (omega arith) (omega arith) (omega arith)

  one : (p a : ℕ) → get_or c p 0 ≡ get_or b a 0 → Agree p a 1
  one p a h x y i less e f = let at : x ≡ p = omega arith in let from : y ≡ a = omega arith in cc

  join : (p a m d : ℕ) → Agree p a m → Agree (p + m) (a + m) d → Agree p a (m + d)
  join p a m d g h x y i less e f =
      ⊎_elim (λ lt. g x y i lt e f) (λ from. h x y (i - m) (omega arith) (omega arith) (omega arith)) (below_or_not i m)

  -- ---- the numbers of bytes that agree
  u16_same : (p a : ℕ) → Agree p a 2 → u16_at c p ≡ u16_at b a
  unfolding u16_at
  u16_same p a h =
      let first : get_or c p 0 ≡ get_or b a 0 = h p a 0 (omega arith) (omega arith) (omega arith) in
      let second : get_or c (p + 1) 0 ≡ get_or b (a + 1) 0 = h (p + 1) (a + 1) 1 (omega arith) (omega arith) (omega arith) in
      omega arith

  u32_same : (p a : ℕ) → Agree p a 4 → u32_at c p ≡ u32_at b a
  unfolding u32_at
  u32_same p a h =
      let low = u16_same p a (λ x y i less e f. h x y i (omega arith) e f) in
      let high = u16_same (p + 2) (a + 2) (inner p a 4 2 2 (omega arith) h) in
      omega arith

  u64_same : (p a : ℕ) → Agree p a 8 → u64_at c p ≡ u64_at b a
  unfolding u64_at
  u64_same p a h =
      let low = u32_same p a (λ x y i less e f. h x y i (omega arith) e f) in
      let high = u32_same (p + 4) (a + 4) (inner p a 8 4 4 (omega arith) h) in
      omega arith

  -- ---- and back
  module _ (small : Bytes b) (small' : Bytes c) where
    u16_back : (p a : ℕ) → u16_at c p ≡ u16_at b a → Agree p a 2
    unfolding u16_at
    u16_back p a e =
        let first : get_or c p 0 ≡ get_or b a 0 = omega (arith, small a, small' p) in
        let second : get_or c (p + 1) 0 ≡ get_or b (a + 1) 0 = omega (arith, small a, small' p) in
        join p a 1 1 (one p a first) (one (p + 1) (a + 1) second)

    u32_back : (p a : ℕ) → u32_at c p ≡ u32_at b a → Agree p a 4
    unfolding u32_at
    u32_back p a e =
        let low-b = u16_small b small a in
        let low-c = u16_small c small' p in
        join p a 2 2 (u16_back p a (omega arith)) (u16_back (p + 2) (a + 2) (omega arith))

    u64_back : (p a : ℕ) → u64_at c p ≡ u64_at b a → Agree p a 8
    unfolding u64_at
    u64_back p a e =
        let low-b = u32_small b small a in
        let low-c = u32_small c small' p in
        join p a 4 4 (u32_back p a (omega arith)) (u32_back (p + 4) (a + 4) (omega arith))

  -- ---- runs of bytes
  module _ (at place n : ℕ) where
    pub bits_of : part c place (8 * n) ≡ part b at (8 * n) → SameBits b at c place n
    bits_of e k l =
        u64_same (place + 8 * k) (at + 8 * k)
        (λ x y i less f g.
        let m : 8 * k + i < 8 * n = omega arith in
        let read-c = read c place (8 * n) (8 * k + i) m in
        let read-b = read b at (8 * n) (8 * k + i) m in
        let there : x ≡ place + (8 * k + i) = omega arith in
        let here : y ≡ at + (8 * k + i) = omega arith in
        cc)

    pub bytes_of : Bytes b → Bytes c → at + 8 * n ≤ length b → place + 8 * n ≤ length c → SameBits b at c place n → part c place (8 * n) ≡ part b at (8 * n)
    bytes_of small small' in-b in-c same =
        let long-b : length (part b at (8 * n)) ≡ 8 * n = omega (arith, length-take (at + 8 * n - at) (drop at b), length-drop at b) in
        let long-c : length (part c place (8 * n)) ≡ 8 * n = omega (arith, length-take (place + 8 * n - place) (drop place c), length-drop place c) in
        same_number_lists _ _ (long-c ∙ sym long-b)
        (λ k l.
        let less : k < 8 * n = omega arith in
        let eight = u64_back small small' (place + 8 * (k / 8)) (at + 8 * (k / 8)) (same (k / 8) (omega arith)) in
        let byte : get_or c (place + k) 0 ≡ get_or b (at + k) 0 = eight (place + k) (at + k) (k % 8) (omega arith) (omega arith) (omega arith) in
        let read-c = read c place (8 * n) k less in
        let read-b = read b at (8 * n) k less in
        cc)
