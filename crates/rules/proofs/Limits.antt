-- The limits as the code writes them are the whole numbers of 01.
use mathlib.Core.Path.{◌≡◌, refl}
use lib.Ieee.{binary32, of_bits, of_int}
use Rattle.float.specs.Values.{whole32}

pub longest : of_bits binary32 0x4561_0000 ≡ whole32 3600
unfolding of_bits of_int
longest = refl

pub latest : of_bits binary32 0x4580_0000 ≡ whole32 4096
unfolding of_bits of_int
latest = refl
