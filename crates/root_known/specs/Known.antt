-- Numbers kept together with their roots.
use Rattle.std.specs.Prelude.{◌≡◌, Bool, ◌&&◌, List, map, Float}
use Rattle.std.specs.List.{All}
use Rattle.std.specs.Float.Ieee.{eq}
use Rattle.base.specs.Floats.{above0}
use Rattle.root.specs.Root.{root_of}
use Rattle.root_known.specs.declared.Rooted.{Rooted}

-- a number with its root
abbrev pub rooted_of : Float → Rooted
rooted_of n = record { n = n; root = root_of n }

-- numbers, each with its root
abbrev pub rooted_of_all : List Float → List Rooted
rooted_of_all ns = map rooted_of ns

-- each of some numbers is kept with its root
abbrev pub AreRoots : List Rooted → Type 0
AreRoots known = All (λ r. r.root ≡ root_of r.n) known

-- equal and above zero: two floats of 64 bits are then the same float (proofs/OneFloat)
abbrev pub same_above : Float → Float → Bool
same_above a b = above0 a && eq a b
