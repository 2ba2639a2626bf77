-- A line that holds a state has its moment in range. Assumes nothing.
use Prim.Native.Nat.{ℕ, ◌<◌}
use mathlib.Core.List.{List, [], ◌∷◌, map}
use mathlib.Core.Path.{◌≡◌, refl}
use Rattle.base.specs.Limits.{end_of_time}
use Rattle.listing_scan.specs.declared.Line.{Line}
use Rattle.listing_scan.specs.declared.Line.TheVariants as line
use Rattle.listing_scan.specs.Reading.{kind_of}
use Rattle.listing_read.specs.Form.{lines_of, kinds_of}
use Rattle.listing_laws.proofs.OnlyIf.{state_only_if}

abbrev pub InRange : Line → Type 0
InRange (line.State r) = r.moment < end_of_time
InRange line.Header = Unit {0}
InRange line.Outcome = Unit {0}
InRange line.Lone = Unit {0}
InRange line.Bad = Unit {0}

abbrev pub AllInRange : List Line → Type 0
AllInRange [] = Unit {0}
AllInRange (l ∷ ls) = InRange l × AllInRange ls

in_line : (l : List ℕ) (k : Line) → kind_of l ≡ k → InRange k
in_line l (line.State r) e = ((state_only_if l r).0 e).moment
in_line l line.Header e = tt
in_line l line.Outcome e = tt
in_line l line.Lone e = tt
in_line l line.Bad e = tt

all_lines : (ls : List (List ℕ)) → AllInRange (map kind_of ls)
all_lines [] = tt
all_lines (l ∷ ls) = (in_line l (kind_of l) refl, all_lines ls)

-- the lines of any text
pub all_in_range : (text : List ℕ) → AllInRange (kinds_of text)
unfolding kinds_of
all_in_range text = all_lines (lines_of text)
