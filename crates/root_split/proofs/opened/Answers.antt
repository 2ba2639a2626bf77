-- `root_split::opened` meets its contract. Assumes nothing.
use mathlib.Core.Path.{◌≡◌, refl, sym, ap, ◌∙◌, subst}
use mathlib.Core.Bool.{true, false, false≢true}
use Prim.Native.Nat.{ℕ, ◌+◌, ◌-◌, ◌*◌, ◌/◌, ◌%◌, ◌^◌, ◌≤◌, ◌<◌}
use native.Mathlib.Nat.{mul_assoc, mul_right_comm}
use native.Mathlib.Omega.{arith}
use lib.Dec.{T, lit≤}
use lib.Pow.{pow-add, pow_pos}
use lib.Ieee.{Float, binary64, low, of_bits, to_bits, fits, lt}
use lib.Ieee.Bits.{of_bits-to_bits}
use lib.Ieee.Exact.{HasValue}
use lib.Ieee.Positive.{positive}
use Rattle.root_split.specs.Parts.{Split, Opened}
use Rattle.root_digits.proofs.Powers.{four_pow}
use Rattle.root_split.proofs.Values.{rescale}
use Rattle.root_split.proofs.Fields.{subnormal_value, normal_value, none_above}
use Rattle.root_split.proofs.Tests.{above_bits, positive_above}
use Rattle.root_split.proofs.opened.Goals as goal

-- a of the smallest floats, 2^-l, in units of 4^-l
squared : (x : Float) (k l a m h : ℕ) → k + 52 ≡ l → HasValue x false a (2 ^ l) → m * 4 ^ h ≡ a * 2 ^ k → HasValue x false (m * 2 ^ 52 * 4 ^ h) (4 ^ l)
squared x k l a m h e v s =
    let f : a * 2 ^ l ≡ m * 2 ^ 52 * 4 ^ h =
    ap (λ (z : ℕ). a * z) (ap (λ (z : ℕ). 2 ^ z) (sym e) ∙ pow-add 2 k 52) ∙ sym (mul_assoc a (2 ^ k) (2 ^ 52)) ∙ ap (λ (z : ℕ). z * 2 ^ 52) (sym s) ∙ mul_right_comm m (4 ^ h) (2 ^ 52) in
    rescale x false a (2 ^ l) (m * 2 ^ 52 * 4 ^ h) (4 ^ l) (pow_pos l) (ap (λ (z : ℕ). a * z) (four_pow l) ∙ sym (mul_assoc a (2 ^ l) (2 ^ l)) ∙ ap (λ (z : ℕ). z * 2 ^ l) f) v

opens : (x : Float) (a m h : ℕ) → HasValue x false a (2 ^ low binary64) → Split a 1022 m h → Opened x m h
opens x a m h v s = record { least = s.least; most = s.most; top = s.top; value = λ p. squared x 1022 (low binary64) a m h (λ i. 1074) v s.same }

opens-subnormal : (x : Float) (m h : ℕ) → T (fits binary64 x) → to_bits binary64 x < 2 ^ 52 → Split (to_bits binary64 x) 1022 m h → Opened x m h
opens-subnormal x m h p l s =
    opens x (to_bits binary64 x) m h (subst (λ (y : Float). HasValue y false (to_bits binary64 x) (2 ^ low binary64)) (of_bits-to_bits binary64 x p) (subnormal_value (to_bits binary64 x) l)) s

-- the exponent of a normal number, counted from that of the subnormals
normal : (q i e m h : ℕ) → e ≡ i + 1022 → Split q e m h → Split (q * 2 ^ i) 1022 m h
normal q i e m h f s =
    record { least = s.least; most = s.most; top = s.top; same = s.same ∙ ap (λ (z : ℕ). q * z) (ap (λ (z : ℕ). 2 ^ z) f ∙ pow-add 2 i 1022) ∙ sym (mul_assoc q (2 ^ i) (2 ^ 1022)) }

opens-normal : (x : Float) (b q e m h : ℕ) → Split q e m h → T (fits binary64 x) → b ≡ to_bits binary64 x → (b / 2 ^ 52 ≡ 0 → ⊥) → b / 2 ^ 52 < 2047
    → q ≡ b % 2 ^ 52 + 2 ^ 52 → e ≡ b / 2 ^ 52 + 1021 → Opened x m h
opens-normal x b q e m h s p B N l Q E =
    let i = b / 2 ^ 52 - 1 in
    opens x (q * 2 ^ i) m h
    (subst (λ (y : Float). HasValue y false (q * 2 ^ i) (2 ^ low binary64)) (ap (of_bits binary64) B ∙ of_bits-to_bits binary64 x p)
    (normal_value b i q (omega arith) (omega arith) (omega arith) (omega arith)))
    (normal q i e m h (omega arith) s)

unopened : (x : Float) → (T (positive x) → ⊥) → Opened x (2 ^ 52) 0
unopened x n = record { least = lit≤ tt; most = lit≤ tt; top = lit≤ tt; value = λ p. absurd (n p) }

beyond : (x : Float) → T (fits binary64 x) → 2047 ≤ to_bits binary64 x / 2 ^ 52 → T (positive x) → ⊥
beyond x p l q = subst T (ap positive (sym (of_bits-to_bits binary64 x p)) ∙ none_above (to_bits binary64 x) l) q

not-above : (x : Float) → lt (of_bits binary64 0) x ≡ false → T (positive x) → ⊥
not-above x h q = false≢true (sym h ∙ positive_above x q)

pub subnormal-requires : goal.subnormal-requires
subnormal-requires c = (above_bits c.args.x (subst T (sym c.well_formed.0.1) tt) c.if-x.true, omega arith)

pub returns-then-field-eq0 : goal.returns-then-field-eq0
returns-then-field-eq0 c = opens-subnormal c.args.x _ _ (subst T (sym c.well_formed.0.1) tt) (omega arith) c.subnormal.ensures

pub returns-then-field-lt2047 : goal.returns-then-field-lt2047
returns-then-field-lt2047 c = let start = c.before in
    opens-normal start.args.x (to_bits binary64 start.args.x) _ _ _ _ c.split.ensures (subst T (sym start.well_formed.0.1) tt) refl
    c.if-field-eq0.false c.if-field-lt2047.true (omega arith) (omega arith)

pub returns-else-field-lt2047 : goal.returns-else-field-lt2047
returns-else-field-lt2047 c = unopened c.args.x (beyond c.args.x (subst T (sym c.well_formed.0.1) tt) c.if-field-lt2047.false)

pub returns-else-x : goal.returns-else-x
returns-else-x c = unopened c.args.x (not-above c.args.x c.if-x.false)
