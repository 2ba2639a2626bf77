-- `root::parts::closed` meets its contract: what it puts together meets `IsRoot`, which only the root does. Assumes nothing.
use mathlib.Core.Path.{◌≡◌, sym, subst}
use Prim.Native.Nat.{ℕ, suc, ◌+◌, ◌*◌, ◌%◌, ◌^◌, ◌≤◌, ◌<◌}
use native.Mathlib.Omega.{arith}
use lib.Dec.{T}
use lib.Ieee.{Float, binary64, low, of_bits, fits, nan_bits}
use lib.Ieee.Bits.{of_bits-fits}
use lib.Ieee.Positive.{positive}
use Rattle.root.specs.Root.{NearestRoot, root_of}
use Rattle.root.specs.Computed.{nearest_root}
use Rattle.root_split.specs.Parts.{Opened}
use Rattle.root_digits.proofs.WholeRoots.{nearest_root_is, nearest_root_least, nearest_root_most}
use Rattle.root.proofs.RootLaws.{root_is, root_fits, root_unique}
use Rattle.root_split.proofs.Fields.{normal_value, no_nan}
use Rattle.root_split.proofs.Tests.{above_positive}
use Rattle.root.proofs.Tests.{root_negative, root_infinity, root_null}
use Rattle.root.proofs.parts.closed.Goals as goal

-- the digits and the pattern that they make
record Packed (q h b : ℕ) : Type 0 where
  least : 2 ^ 52 ≤ q
  most : q < 2 ^ 53
  bits : b ≡ h * 2 ^ 52 + q
  under : b < 2047 * 2 ^ 52

packed : (x : Float) (m h q : ℕ) → Opened x m h → q ≡ nearest_root (m * 2 ^ 52) → Packed q h (h * 2 ^ 52 % 2 ^ 64 + q)
packed x m h q o e =
    let l : 2 ^ 52 ≤ q = subst (λ (z : ℕ). 2 ^ 52 ≤ z) (sym e) (nearest_root_least m o.least (below m o.most)) in
    let u : q < 2 ^ 53 = subst (λ (z : ℕ). z < 2 ^ 53) (sym e) (nearest_root_most m o.most) in
    pack o.top l u
  where
    below : (m : ℕ) → m + 2 ≤ 2 ^ 54 → m < 2 ^ 54
    below m g = omega arith

    pack : h ≤ 1533 → 2 ^ 52 ≤ q → q < 2 ^ 53 → Packed q h (h * 2 ^ 52 % 2 ^ 64 + q)
    pack t l u = record { least = l; most = u; bits = omega arith; under = omega arith }

-- 53 digits of n = m·2^52
long : (m : ℕ) → 2 ^ 52 ≤ m → 2 ^ 52 * 2 ^ 52 ≤ m * 2 ^ 52
long m l = omega arith

short : (m : ℕ) → m + 2 ≤ 2 ^ 54 → m * 2 ^ 52 < 2 ^ 53 * 2 ^ 53
short m l = omega arith

is-root : (x : Float) (m h q b : ℕ) → T (fits binary64 x) → T (positive x) → Opened x m h → q ≡ nearest_root (m * 2 ^ 52) → Packed q h b → of_bits binary64 b ≡ root_of x
is-root x m h q b f p o e k =
    root_unique x (of_bits binary64 b) (root_of x) (of_bits-fits binary64 b) (root_fits x f)
    (record {
      n = m * 2 ^ 52;
      q = q;
      k = h;
      l = low binary64;
      given = o.value p;
      least = long m o.least;
      most = short m o.most;
      nearest = subst (NearestRoot (m * 2 ^ 52)) (sym e) (nearest_root_is (m * 2 ^ 52) (short m o.most));
      answer = normal_value b h q k.bits k.least k.most (field h o.top);
    })
    (root_is x f p)
  where
    field : (h : ℕ) → h ≤ 1533 → suc h < 2047
    field h t = omega arith

pub float_from_bits-top : goal.float_from_bits-top
unfolding nan_bits
float_from_bits-top c = tt

pub returns-then-x : goal.returns-then-x
returns-then-x c = root_negative c.args.x c.if-x.true

pub overflow_add-result : goal.overflow_add-result
overflow_add-result c = let start = c.before in
    let k = packed start.args.x start.args.p.m start.args.p.half start.args.q start.requires.0 start.requires.1 in
    record { fits = fit _ k.under }
  where
    fit : (b : ℕ) → b < 2047 * 2 ^ 52 → b < 2 ^ 64
    fit b u = omega arith

pub float_from_bits-result : goal.float_from_bits-result
float_from_bits-result c = let start = c.before in
    let k = packed start.args.x start.args.p.m start.args.p.half start.args.q start.requires.0 start.requires.1 in
    no_nan _ k.under

pub returns-then-x-top : goal.returns-then-x-top
returns-then-x-top c = let start = c.before in
    let x = start.args.x in
    is-root x start.args.p.m start.args.p.half start.args.q _ (subst T (sym start.well_formed.0.1) tt)
    (above_positive x c.if-x-2.true c.if-x-top.true) start.requires.0 start.requires.1
    (packed x start.args.p.m start.args.p.half start.args.q start.requires.0 start.requires.1)

pub returns-then-x-2 : goal.returns-then-x-2
returns-then-x-2 c = root_infinity c.args.x c.if-x-2.true c.if-x-top.false

pub returns : goal.returns
returns c = root_null c.args.x c.if-x.false c.if-x-2.false
