-- `root_split::split` meets its contract. Assumes nothing.
use mathlib.Core.Path.{◌≡◌, sym, ap, ◌∙◌}
use Prim.Native.Nat.{ℕ, suc, ◌+◌, ◌*◌, ◌^◌}
use native.Mathlib.Nat.{add-mul, mul-add, two-pow-succ}
use native.Mathlib.Omega.{arith}
use lib.Pow.{pow-add}
use Rattle.root_digits.proofs.Powers.{four_pow}
use Rattle.root_split.proofs.split.Goals as goal

even : (d e h : ℕ) → e ≡ h + h → d * 4 ^ h ≡ d * 2 ^ e
even d e h p = ap (λ (z : ℕ). d * z) (four_pow h ∙ sym (pow-add 2 h h) ∙ ap (λ (z : ℕ). 2 ^ z) (sym p))

uneven : (d e h : ℕ) → e ≡ suc (h + h) → (d + d) * 4 ^ h ≡ d * 2 ^ e
uneven d e h p =
    let half = even d (h + h) h (λ i. h + h) in
    add-mul d d (4 ^ h) ∙ ap (λ (z : ℕ). z + z) half ∙ sym (mul-add d (2 ^ (h + h)) (2 ^ (h + h))) ∙ ap (λ (z : ℕ). d * z) (sym (two-pow-succ (h + h)) ∙ ap (λ (z : ℕ). 2 ^ z) (sym p))

pub returns-then-half-exponent : goal.returns-then-half-exponent
returns-then-half-exponent c = record { least = omega arith; most = omega arith; top = omega arith; same = uneven _ _ _ (omega arith) }

pub returns : goal.returns
returns c = record { least = omega arith; most = omega arith; top = omega arith; same = even _ _ _ (omega arith) }
