-- The plain walk, and its moves, under a fuller book: every state that it reaches under the first it reaches under the second. Assumes nothing.
use mathlib.Core.Bool.{true}
use mathlib.Core.List.{List}
use mathlib.Core.Logic.{inl, inr}
use mathlib.Core.Path.{◌≡◌, refl, sym, ap, ◌∙◌}
use Prim.Native.Nat.{ℕ, zero, suc, ◌-◌, ◌/◌, ◌≤◌}
use native.Mathlib.Omega.{arith}
use Rattle.base.specs.declared.Refusal.{Refusal}
use Rattle.std.specs.Prelude.{Ok, Err}
use Rattle.state.specs.State.{centre_allowed}
use Rattle.state.specs.declared.State.{State}
use Rattle.state.specs.declared.Setting.{Setting}
use Rattle.book.specs.Passes.{passes}
use Rattle.run.specs.Step.{Moved, step}
use Rattle.run.specs.Walk.{onward, walk}
use Rattle.run_laws.proofs.Answers.{centre_stays}
use Rattle.centre.specs.Move.{move_answer}
use Rattle.centre_laws.specs.Legs.{Move, MoveStands, MovesStand, none, one}
use Rattle.centre_laws.proofs.Moved.{move_allowed}
use Rattle.book_laws.specs.Fuller.{HoldsAll, Unless}
use Rattle.book_laws.proofs.Calls.{step_fuller, move_fuller}

module _ (b c : List ℕ) (holds : HoldsAll b c) (second : passes c ≡ true) (setting : Setting) (h : ℕ) where
  step_on : (s next : State) → centre_allowed setting s.centre ≡ true → step b setting h s ≡ Ok next → step c setting h s ≡ Ok next
  step_on s next ok e = go (step_fuller b c holds second setting h s ok)
    where
      go : Unless (Err Refusal.Cover) (step b setting h s) (step c setting h s) → step c setting h s ≡ Ok next
      go (inl six) = let clash : Err Refusal.Cover ≡ Ok next = sym six ∙ e in let z : ◌≡◌ {A = ℕ} 0 1 = cc in absurd (omega arith)
      go (inr alike) = sym alike ∙ e

  pub walk_fuller : (n : ℕ) (s last : State) → (1 ≤ n → centre_allowed setting s.centre ≡ true) → walk (step b setting h) n s ≡ Ok last
      → walk (step c setting h) n s ≡ Ok last
  unfolding walk
  walk_fuller zero s last ok e = e
  walk_fuller (suc n) s last ok e = go (walk (step b setting h) n s) refl e (walk_fuller n s)
    where
      allowed : centre_allowed setting s.centre ≡ true
      allowed = ok (omega arith)

      go : (m : Moved) → walk (step b setting h) n s ≡ m → onward (step b setting h) m ≡ Ok last
          → ((middle : State) → (1 ≤ n → centre_allowed setting s.centre ≡ true) → walk (step b setting h) n s ≡ Ok middle → walk (step c setting h) n s ≡ Ok middle)
          → onward (step c setting h) (walk (step c setting h) n s) ≡ Ok last
      go (Ok middle) w e before =
          ap (onward (step c setting h)) (before middle (λ some. allowed) w)
          ∙ step_on middle last (ap (centre_allowed setting) (centre_stays b setting h 0 n s middle w) ∙ allowed) e
      go (Err k) w e before = let z : ◌≡◌ {A = ℕ} 0 1 = cc in absurd (omega arith)

  pub moved_fuller : (s : State) (to : ℕ) (next : State) → move_answer b setting s to ≡ Ok next → move_answer c setting s to ≡ Ok next
  moved_fuller s to next e = go (move_fuller b c holds (move_allowed b setting s to next e).book second setting s to)
    where
      go : Unless (Err Refusal.Cover) (move_answer b setting s to) (move_answer c setting s to) → move_answer c setting s to ≡ Ok next
      go (inl six) = let clash : Err Refusal.Cover ≡ Ok next = sym six ∙ e in let z : ◌≡◌ {A = ℕ} 0 1 = cc in absurd (omega arith)
      go (inr alike) = sym alike ∙ e

  stands_fuller : (s next : State) (m : Move) → MoveStands b setting h s m next → MoveStands c setting h s m next
  stands_fuller s next m stands =
      let n = (m.at - s.moment) / h in
      let before = stands.before in
      let ok = (move_allowed b setting before m.centre next stands.moved).old in
      record {
        before = before;
        walked = walk_fuller n s before (λ some. ap (centre_allowed setting) (sym (centre_stays b setting h 0 n s before stands.walked)) ∙ ok) stands.walked;
        at = stands.at;
        moved = moved_fuller before m.centre next stands.moved;
        moment = stands.moment;
        centre = stands.centre;
      }

  -- the walk with its moves
  pub moves_fuller : (s last : State) (moves : List Move) → MovesStand b setting h s moves last → MovesStand c setting h s moves last
  moves_fuller s last moves (none s') = none s'
  moves_fuller s last moves (one s' next last' m rest stands later) = one s next last m rest (stands_fuller s next m stands) (moves_fuller next last rest later)
