-- What a call answers reads no number behind its own. Assumes nothing.
use Prim.Native.Nat.{ℕ}
use mathlib.Core.List.{List}
use mathlib.Core.Path.{◌≡◌}
use native.Mathlib.Omega.{arith}
use lib.ListN.{take}
use Rattle.line_values.specs.Values.{number}
use Rattle.line_values.proofs.Taken.{number_taken, vector_taken, injection_taken, state_taken, guesses_taken, unkept_taken, old_setting_taken, setting_taken, sphere_taken as sphere-from-taken}
use Rattle.line_answers.specs.Calls.{root_call, sincos_call, hour_call, sidereal_call, date_call, day_call, fixed_call, turn_call}
use Rattle.line_answers.specs.Calls.{sphere_call, conic_call, orbit_call, body_call, accel_call, run_call, pull_call, inject_call, move_call, fly_call}

module _ (v : List ℕ) where
  pub root_taken : root_call.answer (take 1 v) ≡ root_call.answer v
  root_taken = rw (number_taken 1 v 0 (omega arith))

  pub sincos_taken : sincos_call.answer (take 1 v) ≡ sincos_call.answer v
  sincos_taken = rw (number_taken 1 v 0 (omega arith))

  pub hour_taken : hour_call.answer (take 2 v) ≡ hour_call.answer v
  hour_taken = rw (number_taken 2 v 0 (omega arith), number_taken 2 v 1 (omega arith))

  pub sidereal_taken : sidereal_call.answer (take 3 v) ≡ sidereal_call.answer v
  sidereal_taken = rw (number_taken 3 v 0 (omega arith), number_taken 3 v 1 (omega arith), number_taken 3 v 2 (omega arith))

  pub date_taken : date_call.answer (take 1 v) ≡ date_call.answer v
  date_taken = rw (number_taken 1 v 0 (omega arith))

  pub day_taken : day_call.answer (take 3 v) ≡ day_call.answer v
  day_taken = rw (number_taken 3 v 0 (omega arith), number_taken 3 v 1 (omega arith), number_taken 3 v 2 (omega arith))

  pub fixed_taken : fixed_call.answer (take 8 v) ≡ fixed_call.answer v
  fixed_taken = rw (number_taken 8 v 0 (omega arith), number_taken 8 v 1 (omega arith), unkept_taken 8 v (number v 1) 2 (omega arith))

  pub turn_taken : turn_call.answer (take 13 v) ≡ turn_call.answer v
  turn_taken = rw (number_taken 13 v 0 (omega arith), number_taken 13 v 1 (omega arith), state_taken 13 v 2 (omega arith))

  pub sphere_taken : sphere_call.answer (take 9 v) ≡ sphere_call.answer v
  sphere_taken = rw (number_taken 9 v 0 (omega arith), number_taken 9 v 1 (omega arith), number_taken 9 v 2 (omega arith), sphere-from-taken 9 v (omega arith))

  pub conic_taken : conic_call.answer (take 7 v) ≡ conic_call.answer v
  conic_taken = rw (number_taken 7 v 0 (omega arith), unkept_taken 7 v 0 1 (omega arith))

  pub orbit_taken : orbit_call.answer (take 12 v) ≡ orbit_call.answer v
  orbit_taken = rw (number_taken 12 v 0 (omega arith), state_taken 12 v 1 (omega arith))

  module _ (book : List ℕ) where
    pub body_taken : (body_call book).answer (take 2 v) ≡ (body_call book).answer v
    body_taken = rw (number_taken 2 v 0 (omega arith), number_taken 2 v 1 (omega arith))

    pub accel_taken : (accel_call book).answer (take 11 v) ≡ (accel_call book).answer v
    accel_taken = rw (old_setting_taken 11 v (omega arith), number_taken 11 v 7 (omega arith), vector_taken 11 v 8 (omega arith))

    pub run_taken : (run_call book).answer (take 22 v) ≡ (run_call book).answer v
    run_taken =
        rw (old_setting_taken 22 v (omega arith), number_taken 22 v 7 (omega arith), injection_taken 22 v (number v 7) 1 8 (omega arith))
        (rw (number_taken 22 v 14 (omega arith), number_taken 22 v 15 (omega arith), number_taken 22 v 16 (omega arith), guesses_taken 22 v 17 (omega arith)))

    pub pull_taken : (pull_call book).answer (take 16 v) ≡ (pull_call book).answer v
    pull_taken = rw (setting_taken 16 v (omega arith), number_taken 16 v 12 (omega arith), number_taken 16 v 11 (omega arith), vector_taken 16 v 13 (omega arith))

    pub inject_taken : (inject_call book).answer (take 19 v) ≡ (inject_call book).answer v
    inject_taken = rw (setting_taken 19 v (omega arith), number_taken 19 v 11 (omega arith), number_taken 19 v 12 (omega arith), injection_taken 19 v (number v 11) (number v 12) 13 (omega arith))

    pub move_taken : (move_call book).answer (take 23 v) ≡ (move_call book).answer v
    move_taken = rw (setting_taken 23 v (omega arith), state_taken 23 v 11 (omega arith), number_taken 23 v 22 (omega arith))

    pub fly_taken : (fly_call book).answer (take 30 v) ≡ (fly_call book).answer v
    fly_taken =
        rw (setting_taken 30 v (omega arith), state_taken 30 v 11 (omega arith), number_taken 30 v 22 (omega arith))
        (rw (number_taken 30 v 23 (omega arith), number_taken 30 v 24 (omega arith), guesses_taken 30 v 25 (omega arith)))
