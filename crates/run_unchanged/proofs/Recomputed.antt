-- Document 02, R-8: "The walk's bits do not move". A step from a state in order is the old step, which computes its first slope, and then
-- the acceleration of the new state. Assumes nothing.
use mathlib.Core.Bool.{Bool, true, false, ◌&&◌}
use mathlib.Core.List.{List}
use mathlib.Core.Path.{◌≡◌, refl, sym, ap, ◌∙◌}
use Prim.Native.Nat.{ℕ, ◌+◌, ◌/◌}
use Rattle.base.specs.declared.Refusal.{Refusal}
use Rattle.std.specs.Prelude.{Result, Ok, Err}
use Rattle.base.specs.Choice.{if◌then◌otherwise◌}
use Rattle.state.specs.State.{position, velocity, acceleration, injection_at, finite_vector, used}
use Rattle.state.specs.declared.Vector.{Vector}
use Rattle.state.specs.declared.State.{State}
use Rattle.state.specs.declared.Setting.{Setting}
use Rattle.gravity.specs.Acceleration.{acceleration_at}
use Rattle.run.specs.Step.{Moved, and_then, along, weighed, half, sixth, step_h, arrive, keeping, step}
use Rattle.run.specs.Stages.{velocity2, velocity3, velocity4, lastly, stage2, stage3, stage4}
use Rattle.run_unchanged.specs.Acceleration.{acceleration_before}
use Rattle.run_unchanged.specs.Step.{stage1, unkept, step_before, kept_after}
use Rattle.run_unchanged.proofs.AboutTheEarth.{about_the_earth}

module _ (acc : ℕ → Vector → Result Vector Refusal) where
  abbrev kept : Moved → Moved
  kept = kept_after acc

  -- what is added at the end may be added after every stage
  after : (q : Result Vector Refusal) (next next' : Vector → Moved) → ((a : Vector) → next a ≡ kept (next' a)) → and_then q next ≡ kept (and_then q next')
  after (Ok a) next next' e = e a
  after (Err k) next next' e = refl

  end : (t c : ℕ) (p v : Vector) → arrive (keeping acc) t c p v ≡ kept (arrive (unkept acc) t c p v)
  end t c p v = go (finite_vector p && finite_vector v)
    where
      go : (ok : Bool) → (if ok then keeping acc (injection_at t c p v) otherwise Err Refusal.NotFinite) ≡ kept (if ok then unkept acc (injection_at t c p v) otherwise Err Refusal.NotFinite)
      go true = refl
      go false = refl

  module _ (h : ℕ) (s : State) where
    last : (a1 a2 a3 a4 : Vector) → lastly (keeping acc) h s a1 a2 a3 a4 ≡ kept (lastly (unkept acc) h s a1 a2 a3 a4)
    last a1 a2 a3 a4 =
        end (s.moment + h) s.centre
        (along (position s) (sixth h) (weighed (velocity s) (velocity2 h s a1) (velocity3 h s a2) (velocity4 h s a3)))
        (along (velocity s) (sixth h) (weighed a1 a2 a3 a4))

    fourth : (a1 a2 a3 : Vector) → stage4 acc (keeping acc) h s a1 a2 a3 ≡ kept (stage4 acc (unkept acc) h s a1 a2 a3)
    fourth a1 a2 a3 =
        after (acc (s.moment + h) (along (position s) (step_h h) (velocity3 h s a2))) (lastly (keeping acc) h s a1 a2 a3) (lastly (unkept acc) h s a1 a2 a3)
        (last a1 a2 a3)

    third : (a1 a2 : Vector) → stage3 acc (keeping acc) h s a1 a2 ≡ kept (stage3 acc (unkept acc) h s a1 a2)
    third a1 a2 =
        after (acc (s.moment + h / 2) (along (position s) (half h) (velocity2 h s a1))) (stage4 acc (keeping acc) h s a1 a2) (stage4 acc (unkept acc) h s a1 a2)
        (fourth a1 a2)

    second : (a1 : Vector) → stage2 acc (keeping acc) h s a1 ≡ kept (stage2 acc (unkept acc) h s a1)
    second a1 =
        after (acc (s.moment + h / 2) (along (position s) (half h) (velocity s))) (stage3 acc (keeping acc) h s a1) (stage3 acc (unkept acc) h s a1) (third a1)

    pub first : stage1 acc (keeping acc) h s ≡ kept (step_before acc h s)
    first = after (acc s.moment (position s)) (stage2 acc (keeping acc) h s) (stage2 acc (unkept acc) h s) second

module _ (b : List ℕ) (setting : Setting) (h : ℕ) (s : State) where
  -- from a state whose stored acceleration is the rule's
  pub recomputed : acceleration_at b setting s.centre s.moment (position s) ≡ Ok (acceleration s)
      → step b setting h s ≡ kept_after (acceleration_at b setting s.centre) (step_before (acceleration_at b setting s.centre) h s)
  unfolding step
  recomputed rule =
      let acc = acceleration_at b setting s.centre in
      sym (ap (λ (q : Result Vector Refusal). and_then q (stage2 acc (keeping acc) h s)) rule) ∙ first acc h s

  -- and about the Earth, with J and K zero, the step of document 01
  pub step_as_before : s.centre ≡ 1 → used setting.j ≡ false → used setting.k ≡ false
      → acceleration_at b setting s.centre s.moment (position s) ≡ Ok (acceleration s)
      → step b setting h s ≡ kept_after (acceleration_before b setting) (step_before (acceleration_before b setting) h s)
  step_as_before earth flat dark rule =
      recomputed rule
      ∙ ap (λ (c : ℕ). kept_after (acceleration_at b setting c) (step_before (acceleration_at b setting c) h s)) earth
      ∙ ap (λ (acc : ℕ → Vector → Result Vector Refusal). kept_after acc (step_before acc h s)) (λ i t P. about_the_earth setting flat dark b t P i)
