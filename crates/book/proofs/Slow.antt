-- In a calm book every velocity is finite: a bound goes through each operation of the series and its slope. Assumes nothing.
use Prim.Native.Nat.{ℕ, zero, suc, ◌+◌, ◌*◌, ◌/◌, ◌%◌, ◌^◌, ◌≤◌, ◌<◌}
use mathlib.Core.Bool.{Bool, true, false, true≢false}
use mathlib.Core.List.{List, [], ◌∷◌}
use mathlib.Core.Path.{◌≡◌, refl, sym, ap, ◌∙◌}
use native.Mathlib.Nat.{le_trans, le_of_eq, mul-one, mul-le-mul}
use native.Mathlib.Omega.{arith}
use lib.Dec.{lit≤}
use lib.IntN.{ℤ, pos, negsuc}
use lib.Pow.{pow-add, pow_mono}
use lib.Ieee.{Float, binary64, of_bits, of_fields, of_int, odd, hid, neg, sub, round}
use lib.Ieee.Exact.{odd_sign}
use lib.Ieee.Scale.{finite}
use borrow.Author.Tests.{ne_eqb, ltb-true}
use Rattle.base.specs.Floats.{◌⊕◌, ◌⊖◌, ◌⊗◌, ◌⊘◌, whole}
use Rattle.base.proofs.Bounds.{Within, power_held, whole_is, whole_held, wider, value_within, within_finite, round_within, neg_within, mul_within, add_within, div_within}
use Rattle.base_bytes.specs.Bytes.{u64_at}
use Rattle.book_check.specs.Contents.{entry_count, offset_of, size_of, start_of, span_of, coefficient}
use Rattle.book_check.specs.Passes.{all_below, passes}
use Rattle.book_check.specs.Check.{bits_below, floats_below}
use Rattle.book.specs.Calm.{calm_limit, calm, Ready}
use Rattle.book_search.specs.Lookup.{covers}
use Rattle.book_series.specs.Series.{Pair, twice, turn, clenshaw, slope_turn, slopes, last_slope, slope, speed, listed, InSpan, argument, velocity}
use Rattle.book.specs.Position.{finite_velocity}
use Rattle.base.proofs.Bools.{both}
use Rattle.book_check.proofs.Below.{every}
use Rattle.book_check.proofs.Passing.{passing}
use Rattle.book_search.proofs.Found.{covering}
use Rattle.book_series.proofs.Numerator.{size, span_size}

-- x is at most 2^k in size
abbrev Upto : ℕ → Float → Type 0
Upto k x = Within (2 ^ k) 1 x

-- ---- the operations, by powers of two

more : (j k : ℕ) (x : Float) → j ≤ k → Upto j x → Upto k x
more j k x l h = wider (2 ^ j) (2 ^ k) 1 x (pow_mono l) h

doubled : (k : ℕ) → (2 ^ k + 2 ^ k) * 1 ≤ 2 ^ suc k * 1
doubled k = omega arith

sum_upto : (k : ℕ) (x y : Float) → suc k ≤ 1023 → Upto k x → Upto k y → Upto (suc k) (x ⊕ y)
sum_upto k x y l p q = add_within (2 ^ k) (2 ^ k) 1 (2 ^ suc k) 1 x y p q (power_held (suc k) 0 l (lit≤ tt)) (lit≤ tt) (doubled k)

less_upto : (k : ℕ) (x y : Float) → suc k ≤ 1023 → Upto k x → Upto k y → Upto (suc k) (x ⊖ y)
unfolding sub
less_upto k x y l p q = sum_upto k x (neg y) l p (neg_within (2 ^ k) 1 y q)

times_upto : (j k m : ℕ) (x y : Float) → j + k ≡ m → m ≤ 1023 → Upto j x → Upto k y → Upto m (x ⊗ y)
times_upto j k m x y e l p q =
    mul_within (2 ^ j) 1 (2 ^ k) 1 (2 ^ m) 1 x y p q (power_held m 0 l (lit≤ tt)) (lit≤ tt) (lit≤ tt)
    (le_of_eq (ap (λ (z : ℕ). z * 1) (sym (pow-add 2 j k) ∙ ap (λ (z : ℕ). 2 ^ z) e)))

-- ---- the turns

two_upto : Upto 1 (of_bits binary64 0x4000_0000_0000_0000)
unfolding of_bits
two_upto = lit≤ tt

twice_upto : (k : ℕ) (x : Float) → suc k ≤ 1023 → Upto k x → Upto (suc k) (twice x)
twice_upto k x l p = times_upto 1 k (suc k) (of_bits binary64 0x4000_0000_0000_0000) x (omega arith) l two_upto p

record PairUpto (k : ℕ) (b : Pair) : Type 0 where
  here : Upto k b.here
  next : Upto k b.next

module _ (w : Float) (small : Upto 0 w) (k : ℕ) (l : suc (suc (suc k)) ≤ 1023) where
  turn_upto : (c : Float) (b : Pair) → Upto k c → PairUpto k b → PairUpto (suc (suc (suc k))) (turn w c b)
  turn_upto c b p q =
      record {
        here =
            sum_upto (suc (suc k)) (twice w ⊗ b.here ⊖ b.next) c l
            (less_upto (suc k) (twice w ⊗ b.here) b.next (omega arith)
            (times_upto 1 k (suc k) (twice w) b.here (omega arith) (omega arith) (twice_upto 0 w (lit≤ tt) small) q.here)
            (more k (suc k) b.next (omega arith) q.next))
            (more k (suc (suc k)) c (omega arith) p);
        next = more k (suc (suc (suc k))) b.here (omega arith) q.here;
      }

  slope_upto : (b d : Pair) → PairUpto k b → PairUpto k d → PairUpto (suc (suc (suc k))) (slope_turn w b d)
  slope_upto b d p q =
      record {
        here =
            less_upto (suc (suc k)) (twice b.here ⊕ twice w ⊗ d.here) d.next l
            (sum_upto (suc k) (twice b.here) (twice w ⊗ d.here) (omega arith)
            (twice_upto k b.here (omega arith) p.here)
            (times_upto 1 k (suc k) (twice w) d.here (omega arith) (omega arith) (twice_upto 0 w (lit≤ tt) small) q.here))
            (more k (suc (suc k)) d.next (omega arith) q.next);
        next = more k (suc (suc (suc k))) d.here (omega arith) q.here;
      }

  last_upto : (b d : Pair) → PairUpto k b → PairUpto k d → Upto (suc (suc k)) (last_slope w b d)
  last_upto b d p q =
      less_upto (suc k) (b.here ⊕ w ⊗ d.here) d.next (omega arith)
      (sum_upto k b.here (w ⊗ d.here) (omega arith) p.here (times_upto 0 k k w d.here (omega arith) (omega arith) small q.here))
      (more k (suc k) d.next (omega arith) q.next)

-- ---- the series: 2^512 to begin with, and three places a coefficient

Small : List Float → Type 0
Small [] = Unit {0}
Small (c ∷ cs) = Upto 512 c × Small cs

reach : List Float → ℕ
reach [] = 512
reach (c ∷ cs) = suc (suc (suc (reach cs)))

reach_low : (cs : List Float) → 512 ≤ reach cs
unfolding reach
reach_low [] = lit≤ tt
reach_low (c ∷ cs) = let h = reach_low cs in omega arith

zeros_upto : (k : ℕ) → PairUpto k (record { here = of_bits binary64 0; next = of_bits binary64 0 })
unfolding of_bits
zeros_upto k = record { here = omega arith; next = omega arith }

module _ (w : Float) (small : Upto 0 w) where
  values_upto : (cs : List Float) → reach cs ≤ 1000 → Small cs → PairUpto (reach cs) (clenshaw w cs)
  unfolding clenshaw reach Small
  values_upto [] l h = zeros_upto 512
  values_upto (c ∷ cs) l h =
      turn_upto w small (reach cs) (omega arith) c (clenshaw w cs) (more 512 (reach cs) c (reach_low cs) h.0) (values_upto cs (omega arith) h.1)

  slopes_upto : (cs : List Float) → reach cs ≤ 1000 → Small cs → PairUpto (reach cs) (slopes w cs)
  unfolding slopes reach Small
  slopes_upto [] l h = zeros_upto 512
  slopes_upto (c ∷ cs) l h =
      slope_upto w small (reach cs) (omega arith) (clenshaw w cs) (slopes w cs) (values_upto cs (omega arith) h.1) (slopes_upto cs (omega arith) h.1)

  slope_small : (cs : List Float) → reach cs ≤ 1000 → Small cs → Upto (reach cs) (slope w cs)
  unfolding slope reach Small
  slope_small [] l h = (zeros_upto 512).here
  slope_small (c ∷ cs) l h =
      more (suc (suc (reach cs))) (suc (suc (suc (reach cs)))) (last_slope w (clenshaw w cs) (slopes w cs)) (omega arith)
      (last_upto w small (reach cs) (omega arith) (clenshaw w cs) (slopes w cs) (values_upto cs (omega arith) h.1) (slopes_upto cs (omega arith) h.1))

  thousands : Upto 11 (whole 2000)
  unfolding of_int round
  thousands = lit≤ tt

  speed_finite : (span : ℕ) (cs : List Float) → 1 ≤ span → span < 2 ^ 53 → reach cs ≤ 1000 → Small cs → finite (speed w (whole span) cs) ≡ true
  unfolding of_int
  speed_finite span cs one room l h =
      let k = reach cs in
      within_finite (2 ^ (k + 11)) 1 (speed w (whole span) cs)
      (div_within (2 ^ (k + 11)) 1 span 1 (2 ^ (k + 11)) 1 (slope w cs ⊗ whole 2000) (whole span)
      (times_upto k 11 (k + 11) (slope w cs) (whole 2000) refl (omega arith) (slope_small cs l h) thousands)
      (whole_is span room) (power_held (k + 11) 0 (omega arith) (lit≤ tt)) (lit≤ tt) one (lit≤ tt)
      (mul-le-mul (le_of_eq (mul-one (2 ^ (k + 11)))) (omega arith)))

-- ---- w is at most 1 in size

quotient_small : (z : ℤ) (span : ℕ) → 1 ≤ span → span < 2 ^ 53 → size z ≤ span → Upto 0 (of_int binary64 z ⊘ whole span)
unfolding of_int
quotient_small (pos n) span one room l =
    div_within span 1 span 1 1 1 (round binary64 false n 1) (whole span) (round_within false n 1 span 1 (lit≤ tt) (whole_held span room) (omega arith))
    (whole_is span room) (power_held 0 0 (lit≤ tt) (lit≤ tt)) (lit≤ tt) one (lit≤ tt) (omega arith)
quotient_small (negsuc n) span one room l =
    div_within span 1 span 1 1 1 (round binary64 true (suc n) 1) (whole span) (round_within true (suc n) 1 span 1 (lit≤ tt) (whole_held span room) (omega arith))
    (whole_is span room) (power_held 0 0 (lit≤ tt) (lit≤ tt)) (lit≤ tt) one (lit≤ tt) (omega arith)

argument_small : (start span t : ℕ) → 1 ≤ span → InSpan start span t → Upto 0 (argument start span t)
unfolding argument
argument_small start span t one i = quotient_small _ span one (let e = i.ends in omega arith) (span_size i one)

-- ---- a coefficient below the limit

product : (q x : ℕ) → q ≤ 2 ^ 53 → x ≤ 1533 → q * 2 ^ x ≤ 2 ^ 512 * 2 ^ 1074
product q x h l = le_trans (mul-le-mul h (pow_mono l)) (lit≤ tt)

fields_small : (s : Bool) (x t : ℕ) → x < 1535 → t < 2 ^ 52 → Upto 512 (of_fields binary64 s x t)
unfolding of_fields
fields_small s zero t l h = value_within s (t * 2 ^ 0) (2 ^ 1074) (2 ^ 512) (odd 53 s t 0 1074) (lit≤ tt) (odd_sign 53 s t 0 1074) (product t 0 (omega arith) (lit≤ tt))
fields_small s (suc x) t l h =
    rw (ne_eqb (suc x) 2047 (λ e. absurd (omega arith)))
    (value_within s ((hid binary64 + t) * 2 ^ x) (2 ^ 1074) (2 ^ 512) (odd 53 s (hid binary64 + t) x 1074) (lit≤ tt)
    (odd_sign 53 s (hid binary64 + t) x 1074) (product (hid binary64 + t) x (omega arith) (omega arith)))

bits_small : (bits : ℕ) → bits_below calm_limit bits ≡ true → Upto 512 (of_bits binary64 bits)
unfolding of_bits
bits_small bits h =
    let m : bits % 0x8000_0000_0000_0000 < 0x5ff0_0000_0000_0000 = ltb-true _ _ h in
    fields_small _ (bits % 0x8000_0000_0000_0000 / 0x10_0000_0000_0000) (bits % 0x10_0000_0000_0000) (omega arith) (omega arith)

-- ---- the book

abbrev pub calm_before : List ℕ → ℕ → Bool
calm_before b n = all_below n (λ i. floats_below calm_limit b (offset_of b i) (3 * size_of b i))

pub calm_at : (b : List ℕ) → calm b ≡ true → (i : ℕ) → i < entry_count b → floats_below calm_limit b (offset_of b i) (3 * size_of b i) ≡ true
unfolding calm
calm_at b h i l = every (entry_count b) (λ i. floats_below calm_limit b (offset_of b i) (3 * size_of b i)) h i l

listed_small : (f : ℕ → Float) (k n : ℕ) → ((j : ℕ) → j < k + n → Upto 512 (f j)) → Small (listed f k n)
unfolding Small
listed_small f k zero h = tt
listed_small f k (suc n) h = (h k (omega arith), listed_small f (suc k) n (λ j l. h j (omega arith)))

listed_reach : (f : ℕ → Float) (k n : ℕ) → reach (listed f k n) ≡ 512 + 3 * n
unfolding reach
listed_reach f k zero = refl
listed_reach f k (suc n) = let e = listed_reach f (suc k) n in omega arith

module _ (b : List ℕ) (i t : ℕ) (pass : passes b ≡ true) (calmly : calm b ≡ true) (l : i < entry_count b) (c : covers b i t ≡ true) where
  axis : (k : ℕ) → k + size_of b i ≤ 3 * size_of b i → finite (speed (argument (start_of b i) (span_of b i) t) (whole (span_of b i)) (listed (coefficient b i) k (size_of b i))) ≡ true
  axis k room =
      let a = (passing b pass).allowed i l in
      let v = covering b i t c in
      let within : InSpan (start_of b i) (span_of b i) t = omega arith in
      let e = listed_reach (coefficient b i) k (size_of b i) in
      speed_finite _ (argument_small (start_of b i) (span_of b i) t a.span_low within) (span_of b i) (listed (coefficient b i) k (size_of b i))
      a.span_low (let z = a.ends in omega arith) (omega arith)
      (listed_small (coefficient b i) k (size_of b i)
      (λ j m. bits_small (u64_at b (offset_of b i + 8 * j)) (every (3 * size_of b i) (λ k. bits_below calm_limit (u64_at b (offset_of b i + 8 * k))) (calm_at b calmly i l) j (omega arith))))

  pub slow : finite_velocity (velocity b i t) ≡ true
  unfolding velocity
  slow = both (both (axis 0 (omega arith)) (axis (size_of b i) (omega arith))) (axis (2 * size_of b i) (omega arith))

-- a walk that does not know whether its book is calm
pub untold : (b : List ℕ) → passes b ≡ true → Ready b false
untold b pass = record { pass = pass; calmly = λ told. absurd (true≢false (sym told)) }
