-- `root_digits::inner::nearest_roots` meets its contract: each lane is that of its number throughout. Assumes nothing.
use Rattle.std.proofs.Common.{length, ◌≡◌, arith, rules}
use Rattle.root_digits.specs.Digits.{nearest_of}
use Rattle.root_digits.proofs.Maps.{map_by, map_more_by}
use Rattle.root_digits.proofs.Turns.{next, turning, turned, found}
use Rattle.root_digits.proofs.inner.nearest_roots.Goals as goal

pub two_turns-requires : goal.two_turns-requires
two_turns-requires g c = let i = c.loop.invariant in
    turning c.loop.counter (c.loop-s.invariant.rest c.loop-s.s-index (omega arith) c.loop-s-test.true _) i.weight c.loop-test.true

pub loop-preserved : goal.loop-preserved
loop-preserved g c = let i = c.loop-s.invariant in
    record { weight = next _ _ c.loop.invariant.weight c.loop-test.true; size = i.size; lanes = λ k b. i.turned k (omega arith) }

pub last-requires : goal.last-requires
last-requires g c = let i = c.loop.invariant in
    turned c.loop.counter (i.lanes c.loop-k-2.k c.loop-k-2-test.true _) i.weight c.loop-test.false

pub loop-k-2-preserved : goal.loop-k-2-preserved
loop-k-2-preserved g c = let i = c.loop-k-2.invariant in
    let l = c.loop.invariant in
    let e : length c.args.digits ≡ g.row.N = search rules in
    let r = found c.loop.counter c.last.ensures (c.requires c.loop-k-2.k 0 (omega (arith, c.loop-k-2-test.true))).1 (l.lanes c.loop-k-2.k c.loop-k-2-test.true _) l.weight c.loop-test.false in
    record { size = search rules; roots = map_more_by nearest_of c.args.digits _ _ _ 0 0 (omega (arith, c.loop-k-2-test.true)) i.roots r }

pub returns : goal.returns
returns g c = let i = c.loop-k-2.invariant in
    let e : length c.args.digits ≡ g.row.N = search rules in
    map_by nearest_of c.args.digits _ 0 0 (omega arith) (λ k b. i.roots k (omega (arith, c.loop-k-2-test.false)))
