-- `root_digits::inner::first` meets its contract. Assumes nothing.
use Rattle.std.proofs.Common.{◌-◌, ◌^◌, arith}
use Rattle.root_digits.proofs.inner.first.Goals as goal

pub returns : goal.returns
returns c = record {
  q = 2 ^ 52;
  w = c.args.m - 2 ^ 52;
  square = omega arith;
  rest = omega arith;
  room = omega arith;
  v_is = omega arith;
  t_is = omega arith;
}
