-- Tests of every number below a bound. Assumes nothing.
use Prim.Native.Nat.{ℕ, zero, suc, ◌+◌, ◌*◌, ◌<◌}
use mathlib.Core.Bool.{Bool, true}
use mathlib.Core.Logic.{⊎_elim}
use mathlib.Core.List.{List}
use mathlib.Core.Path.{◌≡◌, refl, sym}
use native.Mathlib.Nat.{eq-or-lt_of_le, le_of_suc-le-suc, not-suc-le-zero}
use native.Mathlib.Omega.{arith}
use Rattle.base.proofs.Bools.{both, left, right}
use Rattle.base_bytes.specs.Bytes.{u64_at}
use Rattle.base_bytes.proofs.FiniteBits.{finite_bits_lem}
use Rattle.book_check.specs.Passes.{all_below, pairs_below}
use Rattle.book_check.specs.Check.{floats_below, floats_finite}

pub every : (n : ℕ) (test : ℕ → Bool) → all_below n test ≡ true → (k : ℕ) → k < n → test k ≡ true
every zero test h k l = absurd (not-suc-le-zero l)
every (suc n) test h k l =
    ⊎_elim
    (λ e. rw e (right (all_below n test) (test n) h))
    (λ lt. every n test (left (all_below n test) (test n) h) k lt)
    (eq-or-lt_of_le (le_of_suc-le-suc l))

pub every_back : (n : ℕ) (test : ℕ → Bool) → ((k : ℕ) → k < n → test k ≡ true) → all_below n test ≡ true
every_back zero test h = refl
every_back (suc n) test h = both (every_back n test (λ k l. h k (omega arith))) (h n (omega arith))

-- the same test, written in two ways
pub alike : (n : ℕ) (f g : ℕ → Bool) → ((k : ℕ) → f k ≡ g k) → all_below n f ≡ all_below n g
alike zero f g h = refl
alike (suc n) f g h = rw (alike n f g h, h n)

pub every_pair : (n : ℕ) (test : ℕ → ℕ → Bool) → pairs_below n test ≡ true → (i j : ℕ) → i < j → j < n → test i j ≡ true
every_pair n test h i j l m = every j (λ i. test i j) (every n (λ j. all_below j (λ i. test i j)) h j m) i l

pub every_pair_back : (n : ℕ) (test : ℕ → ℕ → Bool) → ((i j : ℕ) → i < j → j < n → test i j ≡ true) → pairs_below n test ≡ true
every_pair_back n test h = every_back n _ (λ j m. every_back j _ (λ i l. h i j l m))

-- floats are finite if their bits lie below an infinity's
pub finite_below : (b : List ℕ) (at n : ℕ) → floats_below 0x7ff0_0000_0000_0000 b at n ≡ floats_finite b at n
finite_below b at n = alike n _ _ (λ k. sym (finite_bits_lem (u64_at b (at + 8 * k))))
