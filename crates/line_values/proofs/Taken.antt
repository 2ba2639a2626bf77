-- The values of a call's numbers are those of the array that begins with them. Assumes nothing.
use Prim.Native.Nat.{ℕ, ◌+◌, ◌<◌, ◌≤◌}
use mathlib.Core.List.{List}
use mathlib.Core.Path.{◌≡◌, ap}
use native.Mathlib.Omega.{arith}
use lib.ListN.{take}
use lib.Seq.{get_or-take}
use Rattle.state.specs.State.{carrying}
use Rattle.state.specs.declared.Injection.{Injection}
use Rattle.gravity.specs.Acceleration.{nowhere}
use Rattle.line_values.specs.Values.{number, vector_from, injection_from, state_from, unkept_from, old_setting, setting_from, guesses_from, sphere_from}

module _ (k : ℕ) (v : List ℕ) where
  pub number_taken : (i : ℕ) → i < k → number (take k v) i ≡ number v i
  number_taken i h = get_or-take k v i 0 h

  pub vector_taken : (i : ℕ) → i + 3 ≤ k → vector_from (take k v) i ≡ vector_from v i
  vector_taken i h = rw (number_taken i (omega arith), number_taken (i + 1) (omega arith), number_taken (i + 2) (omega arith))

  pub injection_taken : (moment centre i : ℕ) → i + 6 ≤ k → injection_from (take k v) moment centre i ≡ injection_from v moment centre i
  injection_taken moment centre i h =
      rw (number_taken i (omega arith), number_taken (i + 1) (omega arith), number_taken (i + 2) (omega arith))
      (rw (number_taken (i + 3) (omega arith), number_taken (i + 3 + 1) (omega arith), number_taken (i + 3 + 2) (omega arith)))

  pub state_taken : (i : ℕ) → i + 11 ≤ k → state_from (take k v) i ≡ state_from v i
  state_taken i h =
      rw (number_taken i (omega arith), number_taken (i + 1) (omega arith), number_taken (i + 2) (omega arith), number_taken (i + 2 + 1) (omega arith))
      (rw (number_taken (i + 2 + 2) (omega arith), number_taken (i + 2 + 3) (omega arith), number_taken (i + 2 + 3 + 1) (omega arith))
      (rw (number_taken (i + 2 + 3 + 2) (omega arith), number_taken (i + 8) (omega arith), number_taken (i + 8 + 1) (omega arith), number_taken (i + 8 + 2) (omega arith))))

  pub guesses_taken : (i : ℕ) → i + 5 ≤ k → guesses_from (take k v) i ≡ guesses_from v i
  guesses_taken i h =
      rw (number_taken i (omega arith), number_taken (i + 1) (omega arith), number_taken (i + 2) (omega arith), number_taken (i + 3) (omega arith), number_taken (i + 4) (omega arith))

  pub unkept_taken : (moment i : ℕ) → i + 6 ≤ k → unkept_from (take k v) moment i ≡ unkept_from v moment i
  unkept_taken moment i h = ap (λ (j : Injection). carrying j nowhere) (injection_taken moment 1 i h)

  pub old_setting_taken : 7 ≤ k → old_setting (take k v) ≡ old_setting v
  old_setting_taken h =
      rw (number_taken 0 (omega arith), number_taken 1 (omega arith), number_taken 2 (omega arith), number_taken 3 (omega arith))
      (rw (number_taken 4 (omega arith), number_taken 5 (omega arith), number_taken 6 (omega arith)))

  pub setting_taken : 11 ≤ k → setting_from (take k v) ≡ setting_from v
  setting_taken h =
      rw (number_taken 0 (omega arith), number_taken 1 (omega arith), number_taken 2 (omega arith), number_taken 3 (omega arith), number_taken 4 (omega arith), number_taken 5 (omega arith))
      (rw (number_taken 6 (omega arith), number_taken 7 (omega arith), number_taken 8 (omega arith), number_taken 9 (omega arith), number_taken 10 (omega arith)))

  pub sphere_taken : 9 ≤ k → sphere_from (take k v) ≡ sphere_from v
  sphere_taken h =
      rw (number_taken 3 (omega arith), number_taken 4 (omega arith), number_taken 5 (omega arith), number_taken 6 (omega arith), number_taken 7 (omega arith), number_taken 8 (omega arith))
