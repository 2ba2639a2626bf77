-- `root::inner::square_roots` meets its contract: each root is of its own number. Assumes nothing.
use Rattle.std.proofs.Common.{◌≡◌, length, get_or, ◌∙◌, ap, refl, arith, rules}
use Rattle.std.proofs.lemmas.List.{get_or-map}
use lib.Ieee.{nan}
use Rattle.root_split.specs.declared.Parts.{Parts}
use Rattle.root_split.specs.Parts.{Opened}
use Rattle.root_digits.specs.Digits.{nearest_of}
use Rattle.root.specs.Root.{root_of}
use Rattle.root_digits.proofs.Maps.{map_by, both_more}
use Rattle.root.proofs.inner.square_roots.Goals as goal

pub loop-k-preserved : goal.loop-k-preserved
loop-k-preserved g c = let i = c.loop-k.invariant in
    record {
      places = search rules;
      numbers = search rules;
      opened = both_more (λ j (p : Parts) m. Opened (get_or c.args.xs j nan) p.m p.half × (m ≡ p.m)) _ _ _ _ _ (omega (arith, c.loop-k-test.true)) (omega (arith, c.loop-k-test.true)) i.opened (c.opened-p.ensures, refl);
    }

pub nearest_roots-wholes-requires : goal.nearest_roots-wholes-requires
nearest_roots-wholes-requires g c = let i = c.loop-k.invariant in (
  search rules,
  λ k d l. let o = i.opened k (omega (arith, c.loop-k-test.false)) (record { m = 0; half = 0 }) d in
      (omega (arith, o.0.least, o.1), omega (arith, o.0.most, o.1)),
)

pub closed-requires : goal.closed-requires
closed-requires g c = let i = c.loop-k.invariant in
    let k = c.loop-k-2.k in
    let o = i.opened k (omega (arith, c.loop-k-test.false, c.loop-k-2-test.true)) _ 0 in
    (o.0, ap (λ l. get_or l k 0) c.nearest_roots-wholes.ensures ∙ get_or-map nearest_of c.loop-k.digits k 0 0 (omega (arith, c.loop-k-2-test.true, i.numbers)) ∙ ap nearest_of o.1)

pub returns : goal.returns
returns g c = let e : length c.args.xs ≡ g.row.N = search rules in
    map_by root_of c.args.xs _ nan nan (omega (arith, c.loop-k-2.invariant.size)) (λ k b. c.loop-k-2.invariant.roots k (omega (arith, c.loop-k-2-test.false)))
