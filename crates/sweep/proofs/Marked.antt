-- M2 and M3 of 01.
use mathlib.Core.Path.{◌≡◌, refl, sym, ◌∙◌}
use lib.Ieee.{of_bits, of_int, sub, mul}
use Rattle.float.specs.Values.{one32}
use Rattle.sweep.specs.Sweep.{half_period, six_tenths}

pub M2 : half_period 0 ≡ one32
unfolding half_period of_bits of_int sub mul
M2 = refl

ninth : half_period 9 ≡ six_tenths
unfolding half_period of_bits of_int sub mul
ninth = refl

fourteenth : half_period 14 ≡ six_tenths
unfolding half_period of_bits of_int sub mul
fourteenth = refl

pub M3 : half_period 14 ≡ half_period 9
M3 = fourteenth ∙ sym ninth
