-- The loop over the steps: how it starts, goes on and ends, in terms of `Walking`. Assumes nothing.
use mathlib.Core.Bool.{false}
use mathlib.Core.List.{List}
use mathlib.Core.Path.{◌≡◌, refl, sym, ap, ◌∙◌}
use Prim.Native.Nat.{ℕ, zero, suc, ◌+◌, ◌-◌, ◌*◌, ◌/◌, ◌<◌}
use native.Mathlib.Nat.{suc-mul, zero-mul}
use native.Mathlib.Omega.{arith}
use borrow.Author.Tests.{ne_eqb}
use Rattle.base.specs.declared.Refusal.{Refusal}
use Rattle.std.specs.Prelude.{Ok, Err}
use Rattle.base.specs.Limits.{end_of_time}
use Rattle.state.specs.State.{used, centre_allowed}
use Rattle.state.specs.declared.State.{State}
use Rattle.state.specs.declared.Setting.{Setting}
use Rattle.gravity.specs.Sight.{sights, found_in, all_found}
use Rattle.gravity.specs.declared.Guesses.{Guesses}
use Rattle.gravity.proofs.Under.{all_clear, seen_entry}
use Rattle.step.specs.Step.{Moved, step}
use Rattle.run.specs.Run.{ended, run_to, guesses_at, handed_back, with_guesses}
use Rattle.step_end.specs.Kept.{kept}
use Rattle.step_end.specs.declared.Stepped.{Stepped}
use Rattle.step.specs.Entries.{entries_after, MayStep}
use Rattle.run.specs.Kept.{guesses_from, counted_by, MayWalk, Walking}
use Rattle.run.specs.declared.Outcome.{Outcome}
use Rattle.run_checks.proofs.Allowed.{away}
use Rattle.step.proofs.OneStep.{done}
use Rattle.run.proofs.Runs.{run_on, count_none, count_one, count_ended}

-- ---- one step nearer to the target

pub one_less : (t h left target : ℕ) → (t ≡ target → ⊥) → t + left * h ≡ target → (k : ℕ) × (t + h + k * h ≡ target)
one_less t h zero target short e = absurd (short (let z = zero-mul h in omega arith))
one_less t h (suc left) target short e = (left, let m = suc-mul left h in omega arith)

-- ---- the guesses after a step

pub guesses_seen : (b : List ℕ) (s : Setting) (c t : ℕ) (given : Guesses) → (sights b s c t).checked ≡ Ok tt
    → guesses_from s (sights b s c t).entries given ≡ guesses_at b s t given
unfolding sights found_in all_found guesses_at
guesses_seen b s c t given clear =
    let all = all_clear _ clear in
    λ i.
    record {
      moon = seen_entry b 2 s.moon false t given.moon all.0 i;
      sun = seen_entry b 3 s.sun (used s.k) t given.sun all.1.0 i;
      venus = seen_entry b 4 s.venus false t given.venus all.1.1.0 i;
      mars = seen_entry b 5 s.mars false t given.mars all.1.1.1.0 i;
      jupiter = seen_entry b 6 s.jupiter false t given.jupiter all.1.1.1.1.0 i;
    }

-- ---- the result of a step

pub record HandedOn (entries : Guesses) (m : Moved) (next : State) (seen : Guesses) : Type 0 where
  pub on : m ≡ Ok next
  pub at : seen ≡ entries

pub handed_on : (entries : Guesses) (m : Moved) (there : Stepped) → Ok there ≡ kept entries m → HandedOn entries m there.state there.entries
handed_on entries (Ok s) there e =
    let same : there ≡ record { state = s; entries = entries } = cc in
    record { on = ap (λ (x : Stepped). Ok x.state) (sym same); at = ap (λ (x : Stepped). x.entries) same }
handed_on entries (Err k) there e = let z : ◌≡◌ {A = ℕ} 0 1 = cc in absurd (omega arith)

pub handed_off : (entries : Guesses) (m : Moved) (k : Refusal) → Err k ≡ kept entries m → m ≡ Err k
handed_off entries (Ok s) k e = let z : ◌≡◌ {A = ℕ} 0 1 = cc in absurd (omega arith)
handed_off entries (Err j) k e = cc

module _ (b : List ℕ) (setting : Setting) (start : State) (h target budget : ℕ) (given : Guesses) where
  pub walk_starts : MayWalk b setting start h target → Walking b setting start h target budget given start given 0
  walk_starts may =
      record {
        within = omega arith;
        rest = count_none _ ∙ ap (λ (k : ℕ). counted_by 0 (run_to (step b setting h) target k start)) (omega arith);
        centred = may.centred;
        guess = refl;
        left = (target - start.moment) / h;
        reach = away start.moment h target may.reachable;
      }

  module _ (now : State) (guesses : Guesses) (n : ℕ) (w : Walking b setting start h target budget given now guesses n) where
    pub walk_in : target < end_of_time → MayStep setting now
    walk_in e = (let r = w.reach in omega arith, w.centred)

    pub walk_ends : (o : Outcome Refusal) → run_to (step b setting h) target (budget - n) now ≡ ended o now
        → handed_back o n now guesses ≡ with_guesses b setting given (run_to (step b setting h) target budget start)
    walk_ends o e =
        sym
        (ap (with_guesses b setting given) (w.rest ∙ ap (counted_by n) e ∙ count_ended n (ended o now) refl)
        ∙ ap (handed_back o n now) (sym w.guess))

    pub walk_goes_on : (there : Stepped) → n < budget → (now.moment ≡ target → ⊥)
        → Ok there ≡ kept (entries_after b setting h now) (step b setting h now)
        → Walking b setting start h target budget given there.state (guesses_from setting there.entries given) (n + 1)
    walk_goes_on there room short e =
        let next = there.state in
        let handed = handed_on (entries_after b setting h now) (step b setting h now) there e in
        let did = done b setting h now next handed.on in
        let k = one_less now.moment h w.left target short w.reach in
        record {
          within = omega arith;
          rest =
              w.rest
              ∙ ap (λ (m : ℕ). counted_by n (run_to (step b setting h) target m now)) (omega arith)
              ∙ ap (counted_by n) (run_on (step b setting h) target now short (budget - (n + 1)) next handed.on)
              ∙ count_one n (run_to (step b setting h) target (budget - (n + 1)) next);
          centred = ap (centre_allowed setting) did.centre ∙ w.centred;
          guess =
              ap (λ (entries : Guesses). guesses_from setting entries given) handed.at
              ∙ guesses_seen b setting now.centre (now.moment + h) given (did.clear w.centred)
              ∙ ap (λ (t : ℕ). guesses_at b setting t given) (sym did.moment)
              ∙ sym (rw (ne_eqb (n + 1) 0 (λ z. absurd (omega arith))));
          left = k.0;
          reach = ap (λ (t : ℕ). t + k.0 * h) did.moment ∙ k.1;
        }
