-- `text_read::bits_of` meets its contract: a NaN is the one float that does not equal itself. Assumes nothing.
use mathlib.Core.Bool.{true, false, not}
use mathlib.Core.Path.{◌≡◌, refl, sym, ap, subst}
use lib.Dec.{T}
use lib.Ieee.{Float, nan, inf, fin, binary64, eq, ne, to_bits}
use lib.Ieee.Compare.{differs_from_itself}
use Rattle.text_read.specs.Patterns.{bits_of}
use Rattle.text_read.specs.declared.Bits.TheVariants.{Pattern, NaN}
use Rattle.text_read.proofs.bits_of.Goals as goal

pattern : (x : Float) → eq x x ≡ true → Pattern (to_bits binary64 x) ≡ bits_of x
unfolding eq
pattern nan h = cc
pattern (inf s) h = refl
pattern (fin s m e) h = refl

no_number : (x : Float) → eq x x ≡ false → NaN ≡ bits_of x
unfolding ne
no_number x h = ap bits_of (sym (differs_from_itself x (subst T (sym (ap not h)) tt)))

pub returns-then-x : goal.returns-then-x
returns-then-x c = pattern c.args.x c.if-x.true

pub returns : goal.returns
returns c = no_number c.args.x c.if-x.false
