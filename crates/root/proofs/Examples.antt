-- Some roots, computed. Assumes nothing.
use mathlib.Core.Path.{◌≡◌, refl}
use lib.Ieee.{binary64, of_bits}
use Rattle.root.specs.Root.{root_of}

four : root_of (of_bits binary64 0x4010_0000_0000_0000) ≡ of_bits binary64 0x4000_0000_0000_0000
unfolding root_of of_bits
four = refl

two : root_of (of_bits binary64 0x4000_0000_0000_0000) ≡ of_bits binary64 0x3ff6_a09e_667f_3bcd
unfolding root_of of_bits
two = refl

sixteen : root_of (of_bits binary64 0x4030_0000_0000_0000) ≡ of_bits binary64 0x4010_0000_0000_0000
unfolding root_of of_bits
sixteen = refl

least : root_of (of_bits binary64 1) ≡ of_bits binary64 0x1e60_0000_0000_0000
unfolding root_of of_bits
least = refl

greatest : root_of (of_bits binary64 0x7fef_ffff_ffff_ffff) ≡ of_bits binary64 0x5fef_ffff_ffff_ffff
unfolding root_of of_bits
greatest = refl
