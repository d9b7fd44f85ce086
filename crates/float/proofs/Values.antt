-- The tests and choices on single values, each as the code makes it.
use Rattle.std.proofs.Common.{◌≡◌, Bool, cond, refl}
use lib.Ieee.{Float, Format, nan, inf, fin, of_bits, lt, is_nan}
use Rattle.std.specs.Float.{float_is_finite}
use Rattle.float.specs.Values.{finite, max_zero, least}
use Rattle.float.proofs.Nan.{differs}

-- finite, in the library's words
pub finite_is : (x : Float) → finite x ≡ float_is_finite x
unfolding finite float_is_finite
finite_is nan = refl
finite_is (inf s) = refl
finite_is (fin s m e) = refl

-- the test of max(v, 0)
pub above_zero : (f : Format) (v : Float) {b : Bool} → lt (of_bits f 0) v ≡ b → max_zero f v ≡ cond b v (of_bits f 0)
unfolding max_zero
above_zero f v e = rw e

-- a NaN, in the library's words
pub least_is : (a b : Float) → least a b ≡ cond (is_nan a) b (cond (lt b a) b a)
unfolding least
least_is a b = rw (differs a)
