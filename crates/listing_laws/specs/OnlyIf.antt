-- How the code reads a line (`kind_of` of listing_scan/Reading) is the form of a listing's lines (`HasKind` of listing_scan/Line).
use Rattle.std.specs.Prelude.{ℕ, List, ◌↔◌, ◌≡◌}
use Rattle.listing_scan.specs.declared.Line.{Line}
use Rattle.listing_scan.specs.Line.{HasKind}
use Rattle.listing_scan.specs.Reading.{kind_of}

-- a line is read as a kind if and only if it has that kind
abbrev pub KindOnlyIf : List ℕ → Line → Type 0
KindOnlyIf l k = (kind_of l ≡ k) ↔ HasKind l k
