-- `root_known::inner::rooted` meets its contract: each number has its own root. Assumes nothing.
use Rattle.std.proofs.Common.{◌≡◌, length, arith, rules}
use lib.Ieee.{nan}
use Rattle.root_digits.proofs.Maps.{map_by}
use Rattle.root_known.specs.Known.{rooted_of}
use Rattle.root_known.proofs.inner.rooted.Goals as goal

pub returns : goal.returns
returns g c = let e : length c.args.ns ≡ g.row.N = search rules in
    map_by rooted_of c.args.ns _ nan (rooted_of nan) (omega (arith, c.loop-k.invariant.size)) (λ k b. c.loop-k.invariant.known k (omega (arith, c.loop-k-test.false)))
