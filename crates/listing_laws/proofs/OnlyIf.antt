-- A line is read as a kind if and only if it has that kind. Assumes nothing.
use Prim.Native.Nat.{ℕ}
use mathlib.Core.Bool.{Bool, true, false}
use mathlib.Core.List.{List}
use mathlib.Core.Logic.{◌↔◌, inl, inr}
use mathlib.Core.Path.{◌≡◌, refl, sym, ap, ◌∙◌}
use Rattle.base.proofs.Bools.{clash}
use Rattle.listing_scan.specs.declared.Row.{Row}
use Rattle.listing_scan.specs.declared.Line.{Line}
use Rattle.listing_scan.specs.declared.Line.TheVariants.{Header, State, Outcome, Lone, Bad}
use Rattle.listing_scan.specs.Line.{row_text, LineOf, NoKind, IsOutcome, HasKind}
use Rattle.listing_scan.specs.Reading.{kind_of}
use Rattle.listing_laws.specs.OnlyIf.{KindOnlyIf}
use Rattle.listing_laws.proofs.Texts.{header_kind, arrived_kind, refused_kind, lone_kind, row_kind}
use Rattle.listing_laws.proofs.Spelling.{kind_back}

outcome_read : (l : List ℕ) → IsOutcome l → kind_of l ≡ Outcome
outcome_read l (inl a) = ap kind_of a.text ∙ arrived_kind a.steps
outcome_read l (inr r) = ap kind_of r.text ∙ refused_kind r.refusal r.steps

abbrev is_bad : Line → Bool
is_bad Header = false
is_bad (State r) = false
is_bad Outcome = false
is_bad Lone = false
is_bad Bad = true

other : (k : Line) → is_bad k ≡ false → Bad ≡ k → ⊥
other k q e = clash (sym (ap is_bad e)) q

module _ (l : List ℕ) where
  read_as : (k : Line) → is_bad k ≡ false → kind_of l ≡ k → HasKind l k
  read_as k q e = kind_back k (other k q) l e

  -- a line without a kind is not read as one
  read_as_none : (k : Line) → kind_of l ≡ k → NoKind l → k ≡ Bad
  read_as_none Header e none = absurd (none.no_header (read_as Header refl e))
  read_as_none (State r) e none = absurd (none.no_state r (read_as (State r) refl e))
  read_as_none Outcome e none = absurd (none.no_outcome (read_as Outcome refl e))
  read_as_none Lone e none = absurd (none.no_lone (read_as Lone refl e))
  read_as_none Bad e none = refl

  kind_read : (k : Line) → HasKind l k → kind_of l ≡ k
  kind_read Header h = ap kind_of h.text ∙ header_kind h.h
  kind_read (State r) s = ap kind_of s.text ∙ row_kind r s.moment s.components
  kind_read Outcome o = outcome_read l o
  kind_read Lone r = ap kind_of r.text ∙ lone_kind r.refusal
  kind_read Bad none = read_as_none (kind_of l) refl none

  -- a line that is read as Bad has no other kind: it would be read as that kind
  no_other : (k : Line) → is_bad k ≡ false → kind_of l ≡ Bad → HasKind l k → ⊥
  no_other k q e has = other k q (sym e ∙ kind_read k has)

  has_kind : (k : Line) → kind_of l ≡ k → HasKind l k
  has_kind Header e = read_as Header refl e
  has_kind (State r) e = read_as (State r) refl e
  has_kind Outcome e = read_as Outcome refl e
  has_kind Lone e = read_as Lone refl e
  has_kind Bad e =
      record {
        no_header = no_other Header refl e;
        no_state = λ r. no_other (State r) refl e;
        no_outcome = no_other Outcome refl e;
        no_lone = no_other Lone refl e;
      }

pub kind_only_if : (l : List ℕ) (k : Line) → KindOnlyIf l k
kind_only_if l k = (has_kind l k, kind_read l k)

-- a line is read as a state if and only if it is the one text of that state, with its moment in range and its components finite
pub state_only_if : (l : List ℕ) (r : Row) → (kind_of l ≡ State r) ↔ LineOf l r
state_only_if l r = kind_only_if l (State r)

pub one_text : (l : List ℕ) (r : Row) → kind_of l ≡ State r → l ≡ row_text r
one_text l r e = (has_kind l (State r) e).text
