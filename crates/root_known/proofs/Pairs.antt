-- Numbers that were kept with their roots have them. Assumes nothing.
use Rattle.std.proofs.Common.{◌≡◌, List, refl, sym, subst, arith}
use Rattle.std.proofs.lemmas.List.{get_or-map, length-map}
use lib.Ieee.{Float, nan}
use Rattle.root.specs.Root.{root_of}
use Rattle.root_known.specs.declared.Rooted.{Rooted}
use Rattle.root_known.specs.Known.{rooted_of, rooted_of_all, AreRoots}

pub are_roots : (ns : List Float) (known : List Rooted) → known ≡ rooted_of_all ns → AreRoots known
are_roots ns known e =
    subst AreRoots (sym e)
    (λ k d h. subst (λ (r : Rooted). r.root ≡ root_of r.n) (sym (get_or-map rooted_of ns k nan d (omega (arith, h, length-map ns rooted_of)))) refl)
