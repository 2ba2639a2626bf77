-- Sine and cosine are finite for every angle: a bound goes through each operation of the definition, and at the end both are at most 2 in size. Assumes nothing.
use mathlib.Core.List.{List, [], ◌∷◌}
use mathlib.Core.Path.{◌≡◌, refl, sym, ◌∙◌}
use mathlib.Core.Bool.{Bool, true, false}
use Prim.Native.Nat.{ℕ, zero, suc, ◌+◌, ◌-◌, ◌*◌, ◌/◌, ◌%◌, ◌^◌, ◌≤◌, ◌<◌}
use native.Mathlib.Nat.{le_trans, le_of_eq, mul-one, one-mul, mul-le-mul_right, pow-succ'}
use native.Mathlib.Omega.{arith}
use lib.Dec.{lit≤}
use lib.ListN.{length}
use lib.Pow.{pow_pos}
use lib.Ieee.{Float, nan, inf, fin, down, div, of_int, round}
use lib.Ieee.Scale.{finite}
use lib.Ieee.Exact.{HasValue}
use Rattle.base.specs.declared.Refusal.{Refusal}
use Rattle.std.specs.Prelude.{Result, Ok, Err}
use Rattle.base.specs.Limits.{circle}
use Rattle.base.specs.Choice.{if◌then◌otherwise◌, ◌<?◌}
use Rattle.base.specs.Floats.{◌⊗◌, ◌⊘◌, whole}
use Rattle.base.proofs.Bounds.{Within, Held, power_held, within_finite, round_within, neg_within, mul_within, add_within, div_within}
use Rattle.sine.specs.declared.SineCosine.{SineCosine}
use Rattle.sine.specs.Sine.{octant, within, c, angle, horner, sine_coefficients, cosine_coefficients, column, S, C, sine_cosine, sine_cosine_answer}
use Rattle.sine.proofs.Octants.{within_le}

-- ---- whole numbers to bound by

octant_held : Held octant 1
unfolding round
octant_held = record { divides = lit≤ tt; exact = (refl, refl) }

forty_five_held : Held 45 1
unfolding round
forty_five_held = record { divides = lit≤ tt; exact = (refl, refl) }

-- ---- the angle: x / 10^10 is at most 45, and c at most 1 / 45

whole_within : (x : ℕ) → x ≤ octant → Within octant 1 (whole x)
unfolding of_int
whole_within x h = round_within false x 1 octant 1 (lit≤ tt) octant_held (mul-le-mul_right 1 h)

degree : HasValue (whole 10_000_000_000) false 10_000_000_000 1
unfolding of_int round
degree = (refl, refl)

c_within : Within 1 45 c
unfolding round
c_within = lit≤ tt

angle_within : (x : ℕ) → x ≤ octant → Within 1 1 (angle x)
unfolding angle
angle_within x h =
    mul_within 45 1 1 45 1 1 (whole x ⊘ whole 10_000_000_000) c
    (div_within octant 1 10_000_000_000 1 45 1 (whole x) (whole 10_000_000_000) (whole_within x h) degree forty_five_held (lit≤ tt) (lit≤ tt) (lit≤ tt) (lit≤ tt))
    c_within
    (power_held 0 0 (lit≤ tt) (lit≤ tt))
    (lit≤ tt)
    (lit≤ tt)
    (lit≤ tt)

-- ---- the polynomials

-- each coefficient is at most half the bound of the one before
abbrev Falling : ℕ → List Float → Type 0
Falling k [] = Unit {0}
Falling k (a ∷ rest) = Within 1 (2 ^ k) a × Falling (suc k) rest

looser : (d : ℕ) (x : Float) → Within 1 d x → Within 2 d x
looser d nan h = absurd h
looser d (inf s) h = absurd h
looser d (fin s m e) h = le_trans h (mul-le-mul_right (down e) (lit≤ tt))

halved : (k : ℕ) → 2 * 1 * 2 ^ k ≤ 1 * (2 ^ suc k * 1)
halved k = le_of_eq (sym (one-mul (2 ^ suc k * 1) ∙ mul-one (2 ^ suc k) ∙ pow-succ' 2 k))

-- Horner with a z of at most 1: what is added up stays at most twice the bound of the last coefficient added
horner_within : (z : Float) → Within 1 1 z → (k : ℕ) (cs : List Float) → k + length cs ≤ 1000 → Falling k cs → Within 2 (2 ^ k) (horner z cs)
unfolding of_int round
horner_within z b k [] room f = omega arith
horner_within z b k (c0 ∷ []) room f = looser (2 ^ k) c0 f.0
horner_within z b k (c0 ∷ c1 ∷ rest) room f =
    let h = horner z (c1 ∷ rest) in
    add_within 1 1 (2 ^ k) 2 (2 ^ k) (h ⊗ z) c0
    (mul_within 2 (2 ^ suc k) 1 1 1 (2 ^ k) h z (horner_within z b (suc k) (c1 ∷ rest) (omega arith) f.1) b (power_held 0 k (lit≤ tt) (omega arith)) (pow_pos (suc k)) (lit≤ tt) (halved k))
    f.0
    (power_held 1 k (lit≤ tt) (omega arith))
    (pow_pos k)
    (le_of_eq refl)

sine_falling : Falling 0 sine_coefficients
unfolding div of_int round
sine_falling = (lit≤ tt, (lit≤ tt, (lit≤ tt, (lit≤ tt, (lit≤ tt, (lit≤ tt, (lit≤ tt, tt)))))))

cosine_falling : Falling 0 cosine_coefficients
unfolding div of_int round
cosine_falling = (lit≤ tt, (lit≤ tt, (lit≤ tt, (lit≤ tt, (lit≤ tt, (lit≤ tt, (lit≤ tt, (lit≤ tt, tt))))))))

square_within : (a : Float) → Within 1 1 a → Within 1 1 (a ⊗ a)
square_within a b = mul_within 1 1 1 1 1 1 a a b b (power_held 0 0 (lit≤ tt) (lit≤ tt)) (lit≤ tt) (lit≤ tt) (lit≤ tt)

S_within : (a : Float) → Within 1 1 a → Within 2 1 (S a)
unfolding S
S_within a b =
    mul_within 1 1 2 1 2 1 a (horner (a ⊗ a) sine_coefficients) b (horner_within (a ⊗ a) (square_within a b) 0 sine_coefficients (lit≤ tt) sine_falling)
    (power_held 1 0 (lit≤ tt) (lit≤ tt)) (lit≤ tt) (lit≤ tt) (lit≤ tt)

C_within : (a : Float) → Within 1 1 a → Within 2 1 (C a)
unfolding C
C_within a b = horner_within (a ⊗ a) (square_within a b) 0 cosine_coefficients (lit≤ tt) cosine_falling

-- ---- the table, and the answer

-- both at most 2 in size
pub record AtMostTwo (r : SineCosine) : Type 0 where
  pub sine : Within 2 1 r.sine
  pub cosine : Within 2 1 r.cosine

column_within : (q : ℕ) (s c : Float) → Within 2 1 s → Within 2 1 c → AtMostTwo (column q s c)
unfolding column
column_within zero s c p r = record { sine = p; cosine = r }
column_within (suc zero) s c p r = record { sine = r; cosine = p }
column_within (suc (suc zero)) s c p r = record { sine = r; cosine = neg_within 2 1 s p }
column_within (suc (suc (suc zero))) s c p r = record { sine = p; cosine = neg_within 2 1 c r }
column_within (suc (suc (suc (suc zero)))) s c p r = record { sine = neg_within 2 1 s p; cosine = neg_within 2 1 c r }
column_within (suc (suc (suc (suc (suc zero))))) s c p r = record { sine = neg_within 2 1 c r; cosine = neg_within 2 1 s p }
column_within (suc (suc (suc (suc (suc (suc zero)))))) s c p r = record { sine = neg_within 2 1 c r; cosine = p }
column_within (suc (suc (suc (suc (suc (suc (suc zero))))))) s c p r = record { sine = neg_within 2 1 s p; cosine = r }
column_within (suc (suc (suc (suc (suc (suc (suc (suc q)))))))) s c p r = record { sine = p; cosine = r }

pub sine_cosine_within : (parts : ℕ) → AtMostTwo (sine_cosine parts)
unfolding sine_cosine
sine_cosine_within parts =
    let q = parts / octant in
    let x = within q (parts % octant) in
    let b = angle_within x (within_le q (parts % octant) (omega arith)) in
    column_within q (S (angle x)) (C (angle x)) (S_within (angle x) b) (C_within (angle x) b)

-- what an accepted answer holds is finite
abbrev pub FiniteAnswer : Result SineCosine Refusal → Type 0
FiniteAnswer (Ok r) = (finite r.sine ≡ true) × (finite r.cosine ≡ true)
FiniteAnswer (Err k) = Unit {0}

-- no accepted answer holds a NaN or an infinity, for every angle
pub accepted_finite : (parts : ℕ) → FiniteAnswer (sine_cosine_answer parts)
unfolding sine_cosine_answer
accepted_finite parts = go (parts <? circle)
  where
    go : (b : Bool) → FiniteAnswer (if b then Ok (sine_cosine parts) otherwise Err Refusal.Angle)
    go true =
        let w = sine_cosine_within parts in
        (within_finite 2 1 (sine_cosine parts).sine w.sine, within_finite 2 1 (sine_cosine parts).cosine w.cosine)
    go false = tt
