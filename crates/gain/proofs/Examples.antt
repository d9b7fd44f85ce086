-- What is a fit of six sums and what is none, evaluated: 02, request four.
use Rattle.std.proofs.Common.{◌≡◌, false, [], ◌∷◌, Option, Some, None, refl}
use lib.Ieee.{Float, nan, inf, binary32, binary64, of_bits, sub, add, sum, mul, div, round, neg, lt, is_nan}
use Rattle.float.specs.Values.{zero32, one32, zero64, one64, finite, max_zero}
use Rattle.float.specs.Narrow.{narrowed}
use Rattle.gain.specs.declared.GainFit.{GainFit}
use Rattle.gain.specs.Gain.{sound_fit, solved}

-- 2^128, the first power of two beyond f32, and 2^1000
abbrev beyond : Float
beyond = of_bits binary64 0x47f0_0000_0000_0000

abbrev huge : Float
huge = of_bits binary64 0x7e70_0000_0000_0000

abbrev fit : (gain residual : Float) → Option GainFit
fit gain residual = Some (record { gain = gain; residual = residual })

-- mm = 1, mc = 0 and cc = 1, so that the gain is mt and the trim is ct. None: a difference of NaN beside a gain of 1; a narrowed gain that
-- is infinite beside differences of 0 and of -infinity. A fit: differences of infinity, of -infinity, and of 2
pub examples :
    solved one64 zero64 one64 one64 zero64 nan ∷
    solved one64 zero64 one64 beyond zero64 (mul binary64 beyond beyond) ∷
    solved one64 zero64 one64 (inf false) zero64 one64 ∷
    solved one64 zero64 one64 one64 zero64 (inf false) ∷
    solved one64 zero64 one64 one64 huge one64 ∷
    solved one64 zero64 one64 one64 zero64 (of_bits binary64 0x4008_0000_0000_0000) ∷ []
    ≡ None ∷ None ∷ None ∷ fit one32 (inf false) ∷ fit one32 zero32 ∷ fit one32 (of_bits binary32 0x4000_0000) ∷ []
unfolding solved sound_fit narrowed max_zero finite is_nan lt sub add sum mul div neg round of_bits
examples = refl
