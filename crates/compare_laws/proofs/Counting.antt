-- The laws of float steps (document 02, R-1): zero only between equal bits, the same in both directions, adding up through a float between,
-- and one between the two zeros. Assumes nothing.
use Prim.Native.Nat.{ℕ, ◌+◌, ◌-◌, ◌<◌, ◌≤◌}
use mathlib.Core.Bool.{Bool, true, false}
use mathlib.Core.Path.{◌≡◌, refl, ap}
use native.Mathlib.Omega.{arith}
use borrow.Author.Tests.{lt-ltb, le-ltb, ltb-true, ltb-false}
use lib.Dec.{ltb}
use Rattle.compare_steps.specs.Steps.{place, distance, steps}

halves : (t : Bool) (b : ℕ) {P : Type 0} → ltb b 0x8000_0000_0000_0000 ≡ t → (b < 0x8000_0000_0000_0000 → P) → (0x8000_0000_0000_0000 ≤ b → P) → P
halves true b e low high = low (ltb-true b 0x8000_0000_0000_0000 e)
halves false b e low high = high (ltb-false b 0x8000_0000_0000_0000 e)

-- the two cases: the sign is clear, or it is set
pub by_sign : (b : ℕ) {P : Type 0} → (b < 0x8000_0000_0000_0000 → P) → (0x8000_0000_0000_0000 ≤ b → P) → P
by_sign b low high = halves (ltb b 0x8000_0000_0000_0000) b refl low high

pub place_clear : (b : ℕ) → b < 0x8000_0000_0000_0000 → place b ≡ 0x8000_0000_0000_0000 + b
unfolding place
place_clear b h = rw (lt-ltb b 0x8000_0000_0000_0000 h)

pub place_set : (b : ℕ) → 0x8000_0000_0000_0000 ≤ b → place b ≡ 0xffff_ffff_ffff_ffff - b
unfolding place
place_set b h = rw (le-ltb b 0x8000_0000_0000_0000 h)

-- no two patterns of 64 bits have the same place
pub place_one : (a b : ℕ) → a < 0x1_0000_0000_0000_0000 → b < 0x1_0000_0000_0000_0000 → place a ≡ place b → a ≡ b
place_one a b h g e =
    by_sign a
    (λ low. by_sign b (λ small. omega (arith, place_clear a low, place_clear b small, e)) (λ big. omega (arith, place_clear a low, place_set b big, e)))
    (λ high. by_sign b (λ small. omega (arith, place_set a high, place_clear b small, e)) (λ big. omega (arith, place_set a high, place_set b big, e)))

either_way : (t : Bool) (p q : ℕ) {P : Type 0} → ltb p q ≡ t → (p < q → distance p q ≡ q - p → P) → (q ≤ p → distance p q ≡ p - q → P) → P
either_way true p q e up down = up (ltb-true p q e) (rw e)
either_way false p q e up down = down (ltb-false p q e) (rw e)

by_order : (p q : ℕ) {P : Type 0} → (p < q → distance p q ≡ q - p → P) → (q ≤ p → distance p q ≡ p - q → P) → P
by_order p q up down = either_way (ltb p q) p q refl up down

pub none_apart : (p q : ℕ) → distance p q ≡ 0 → p ≡ q
none_apart p q e = by_order p q (λ h d. omega arith) (λ h d. omega arith)

pub both_ways : (p q : ℕ) → distance p q ≡ distance q p
both_ways p q = by_order p q (λ h d. by_order q p (λ g c. omega arith) (λ g c. omega arith)) (λ h d. by_order q p (λ g c. omega arith) (λ g c. omega arith))

pub adds_up : (p q r : ℕ) → p ≤ q → q ≤ r → distance p r ≡ distance p q + distance q r
adds_up p q r h g =
    by_order p q
    (λ a d. by_order q r (λ b e. by_order p r (λ c f. omega arith) (λ c f. omega arith)) (λ b e. by_order p r (λ c f. omega arith) (λ c f. omega arith)))
    (λ a d. by_order q r (λ b e. by_order p r (λ c f. omega arith) (λ c f. omega arith)) (λ b e. by_order p r (λ c f. omega arith) (λ c f. omega arith)))

-- ---- of the steps themselves

pub steps_none : (a b : ℕ) → a < 0x1_0000_0000_0000_0000 → b < 0x1_0000_0000_0000_0000 → steps a b ≡ 0 → a ≡ b
unfolding steps
steps_none a b h g e = place_one a b h g (none_apart (place a) (place b) e)

pub steps_both_ways : (a b : ℕ) → steps a b ≡ steps b a
unfolding steps
steps_both_ways a b = both_ways (place a) (place b)

pub steps_add : (a b c : ℕ) → place a ≤ place b → place b ≤ place c → steps a c ≡ steps a b + steps b c
unfolding steps
steps_add a b c h g = adds_up (place a) (place b) (place c) h g

-- +0.0 and -0.0
pub zeros : steps 0 0x8000_0000_0000_0000 ≡ 1
unfolding steps place
zeros = refl
