-- Powers of four as powers of two. Assumes nothing.
use Rattle.std.proofs.Common.{◌≡◌, ℕ, zero, suc, ◌*◌, ◌^◌, ◌<◌, sym, refl, ap, ◌∙◌, subst, mul-pos, pow_pos}
use native.Mathlib.Nat.{mul-mul-mul_comm, pow-succ'}

pub four_pow : (k : ℕ) → 4 ^ k ≡ 2 ^ k * 2 ^ k
four_pow zero = refl
four_pow (suc k) = pow-succ' 4 k ∙ ap (λ (z : ℕ). 4 * z) (four_pow k) ∙ sym (ap (λ (z : ℕ). z * z) (pow-succ' 2 k) ∙ mul-mul-mul_comm 2 (2 ^ k) 2 (2 ^ k))

pub four_pos : (k : ℕ) → 0 < 4 ^ k
four_pos k = subst (λ (z : ℕ). 0 < z) (sym (four_pow k)) (mul-pos (pow_pos k) (pow_pos k))
