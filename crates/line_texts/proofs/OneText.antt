-- Any two outcomes that a writer's promise allows are equal: the place behind the text, and the whole buffer. Assumes nothing.
use Prim.Native.Nat.{ℕ}
use mathlib.Core.List.{List, ◌++◌}
use mathlib.Core.Path.{◌≡◌, sym, ap, ◌∙◌}
use lib.ListN.{take, drop, take-append-drop}
use Rattle.text_write.specs.Written.{Wrote}
use Rattle.line_form.specs.Spelled.{Puts}

buffer : (a t b : List ℕ) (at r : ℕ) → Wrote a at t b r → b ≡ (take at a ++ t) ++ drop r a
buffer a t b at r w =
    sym (take-append-drop r b) ∙ ap (λ (l : List ℕ). l ++ drop r b) w.bytes ∙ ap (λ (l : List ℕ). (take at a ++ t) ++ l) w.rest

module _ {a t b c : List ℕ} {at least most r s : ℕ} (p : Puts a at t b least most r) (q : Puts a at t c least most s) where
  pub one_place : r ≡ s
  one_place = p.wrote.next ∙ sym q.wrote.next

  pub one_buffer : b ≡ c
  one_buffer = buffer a t b at r p.wrote ∙ ap (λ (n : ℕ). (take at a ++ t) ++ drop n a) one_place ∙ sym (buffer a t c at s q.wrote)
