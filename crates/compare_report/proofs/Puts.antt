-- Texts of the report written one after the other. Assumes nothing.
use Prim.Native.Nat.{ℕ, ◌+◌, ◌≤◌}
use mathlib.Core.List.{List, [], ◌∷◌, ◌++◌, append_assoc, append-nil}
use mathlib.Core.Path.{◌≡◌, refl, sym, ap, ◌∙◌}
use native.Mathlib.Omega.{arith}
use borrow.Author.Tests.{eq-eqb, ne_eqb}
use lib.ListN.{length}
use Rattle.text_write.specs.Written.{Wrote}
use Rattle.text_write.proofs.Writing.{nothing, both}
use Rattle.listing_scan.specs.declared.Row.{Row}
use Rattle.compare_report.specs.declared.Component.{Component}
use Rattle.compare_report.specs.declared.Component.TheVariants.{X, Y, Z, VX, VY, VZ}
use Rattle.compare_steps.specs.Steps.{steps}
use Rattle.listing_words.specs.Words.{only_word}
use Rattle.compare_report.specs.Report.{Difference, component, at_one, two_numbers, diff_line, line_of, text_of}
use Rattle.compare_report.specs.Turns.{Put, only_text}

pub none : (out : List ℕ) (at room : ℕ) → Put out at [] out at room
none out at room = record { wrote = nothing out at; short = omega arith }

pub wider : {a b t : List ℕ} {at r p : ℕ} (room : ℕ) → Put a at t b r p → p ≤ room → Put a at t b r room
wider {at = at} {r = r} {p = p} room w h = let s = w.short in record { wrote = w.wrote; short = omega arith }

-- one text, and from its end another
pub joined : {a b c t u : List ℕ} {at m r p q : ℕ} (room : ℕ) → Put a at t b m p → Put b m u c r q → p + q ≤ room → Put a at (t ++ u) c r room
joined room v w h = let s = v.short in let z = w.short in record { wrote = both v.wrote w.wrote; short = omega arith }

pub ended : {a b c t u : List ℕ} {at m r p : ℕ} (room : ℕ) → Put a at t b m p → Wrote b m u c r → p + length u ≤ room → Put a at (t ++ u) c r room
ended room v w h = let s = v.short in let z = w.next in record { wrote = both v.wrote w; short = omega arith }

-- ---- the lines of differences

pub text_append : (ds es : List Difference) → text_of (ds ++ es) ≡ text_of ds ++ text_of es
unfolding text_of
text_append [] es = refl
text_append (d ∷ ds) es = ap (λ (t : List ℕ). line_of d ++ t) (text_append ds es) ∙ sym (append_assoc (line_of d) (text_of ds) (text_of es))

pub only_text_lem : (listing moment : ℕ) → only_text listing moment ≡ two_numbers only_word listing moment
unfolding text_of
only_text_lem listing moment = append-nil (two_numbers only_word listing moment)

module _ (t : ℕ) (k : Component) (a b : ℕ) where
  pub bits_same : (out : List ℕ) (at : ℕ) → a ≡ b → Put out at (text_of (component t k a b)) out at 50
  unfolding text_of
  bits_same out at e = rw (eq-eqb a b e) (none out at 50)

  pub bits_differ : (out after : List ℕ) (at r : ℕ) → (a ≡ b → ⊥) → Put out at (diff_line t k (steps a b)) after r 50 → Put out at (text_of (component t k a b)) after r 50
  unfolding text_of
  bits_differ out after at r n w = rw (ne_eqb a b n, append-nil (diff_line t k (steps a b))) w

pub one_text : (r s : Row)
    → let at = component r.moment in
    text_of (at_one r s) ≡ text_of (at X r.x s.x) ++ text_of (at Y r.y s.y) ++ text_of (at Z r.z s.z)
    ++ text_of (at VX r.vx s.vx) ++ text_of (at VY r.vy s.vy) ++ text_of (at VZ r.vz s.vz)
unfolding at_one
one_text r s =
    six (component r.moment X r.x s.x) (component r.moment Y r.y s.y) (component r.moment Z r.z s.z)
    (component r.moment VX r.vx s.vx) (component r.moment VY r.vy s.vy) (component r.moment VZ r.vz s.vz)
  where
    six : (a b c d e f : List Difference) → text_of (a ++ b ++ c ++ d ++ e ++ f) ≡ text_of a ++ text_of b ++ text_of c ++ text_of d ++ text_of e ++ text_of f
    six a b c d e f = rw (text_append (a ++ b ++ c ++ d ++ e) f, text_append (a ++ b ++ c ++ d) e, text_append (a ++ b ++ c) d, text_append (a ++ b) c, text_append a b)
