-- One gain fit: 01, "The integrated fit and its refinement". Place i of a series is tick 11 + i.
use Rattle.std.specs.Prelude.{ℕ, zero, suc, ◌+◌, ◌-◌, ◌/◌, ◌%◌, Bool, true, false, not, ◌&&◌, from_bits, is_nan, Float, Option, Some, None}
use Rattle.std.specs.Float.{binary32, binary64}
use Rattle.std.specs.Float.Ieee.{add, sub, mul, div, lt}
use Rattle.float.specs.Values.{zero64, one64, half64, finite, max_zero}
use Rattle.float.specs.Narrow.{narrowed}
use Rattle.float.specs.Series.{dot_to}
use Rattle.gain.specs.declared.GainFit.{GainFit}
use Rattle.lags.specs.Lags.{lag_to}

-- "ticks 11 to stored - 1"
abbrev pub first_tick : ℕ
first_tick = 11

-- "Step s is 0 to 19: d = s/2 + 1 whole ticks, half where s is odd"
abbrev pub step_count : ℕ
step_count = 20

abbrev pub whole_ticks_of : ℕ → ℕ
whole_ticks_of s = s / 2 + 1

abbrev pub is_half : ℕ → ℕ
is_half s = s % 2

-- "x = a·lagged(k+1-d) + b·lagged(k-d), (a, b) = (1, 0) or halves (0.5, 0.5)", of a whole step and of a half one
abbrev pub blend : ℕ → Float → Float → Float
blend zero newer older = add binary64 (mul binary64 one64 newer) (mul binary64 zero64 older)
blend (suc h) newer older = add binary64 (mul binary64 half64 newer) (mul binary64 half64 older)

-- the moment felt, whole or half, whose newer part is lagged(j) and whose older one is lagged(j - 1)
unfoldable pub felt : Float → (ℕ → Float) → ℕ → ℕ → Float
felt pole u h j = blend h (lag_to pole u (suc j)) (lag_to pole u j)

-- x of step s at tick k = 11 + i, whose newer moment is that of tick k + 1 - d
abbrev pub regressor : ℕ → Float → (ℕ → Float) → ℕ → Float
regressor s pole u i = felt pole u (is_half s) ((first_tick + 1 - whole_ticks_of s) + i)

-- "change = rate(k) - rate(k-1) in f32, widened", at tick 11 + i
abbrev pub change : (ℕ → Float) → ℕ → Float
change rate i = sub binary32 (rate (first_tick + i)) (rate (first_tick - 1 + i))

-- "carry·old + x", from 0, in f64: the leaky sum of the first n values of x
unfoldable pub leaky : Float → (ℕ → Float) → ℕ → Float
leaky carry x zero = zero64
leaky carry x (suc n) = add binary64 (mul binary64 carry (leaky carry x n)) (x n)

-- "m, c, t carry as carry·old + x, + 1, + change": such a series, once the value of place i is in it
abbrev pub through : Float → (ℕ → Float) → ℕ → Float
through carry x i = leaky carry x (suc i)

-- "det = mm·cc - mc·mc"
abbrev pub det : Float → Float → Float → Float
det mm mc cc = sub binary64 (mul binary64 mm cc) (mul binary64 mc mc)

-- "gain = (mt·cc - mc·ct)/det"
abbrev pub gain_of : (mm mc cc mt ct : Float) → Float
gain_of mm mc cc mt ct = div binary64 (sub binary64 (mul binary64 mt cc) (mul binary64 mc ct)) (det mm mc cc)

-- "trim = (mm·ct - mc·mt)/det"
abbrev pub trim_of : (mm mc cc mt ct : Float) → Float
trim_of mm mc cc mt ct = div binary64 (sub binary64 (mul binary64 mm ct) (mul binary64 mc mt)) (det mm mc cc)

-- "tt - gain·mt - trim·ct", the difference before max
abbrev pub difference_of : (gain trim mt ct tt : Float) → Float
difference_of gain trim mt ct tt = sub binary64 (sub binary64 tt (mul binary64 gain mt)) (mul binary64 trim ct)

-- 2^-52
abbrev pub epsilon : Float
epsilon = from_bits binary64 0x3cb0_0000_0000_0000

-- "no fit unless det > 2^-52·mm·cc"
abbrev pub varies : (mm mc cc : Float) → Bool
varies mm mc cc = lt (mul binary64 (mul binary64 epsilon mm) cc) (det mm mc cc)

abbrev pub fit_if : Bool → Option GainFit → Option GainFit
fit_if true fit = fit
fit_if false fit = None

-- 02, four: "A gain fit counts as none if that difference is NaN or its narrowed gain is not finite."
abbrev pub is_sound : (gain difference : Float) → Bool
is_sound gain difference = not (is_nan difference) && finite (narrowed gain)

-- "residual = max(.., 0); gain and residual narrowed"
unfoldable pub sound_fit : (gain difference : Float) → Option GainFit
sound_fit gain difference =
    fit_if (is_sound gain difference) (Some (record { gain = narrowed gain; residual = narrowed (max_zero binary64 difference) }))

-- the fit of the six sums, or none
unfoldable pub solved : (mm mc cc mt ct tt : Float) → Option GainFit
solved mm mc cc mt ct tt =
    let gain = gain_of mm mc cc mt ct in
    let trim = trim_of mm mc cc mt ct in
    fit_if (varies mm mc cc) (sound_fit gain (difference_of gain trim mt ct tt))

-- "Six sums mm, mc, cc, mt, ct, tt" of the first n places of three series, solved
unfoldable pub fitted : (m c t : ℕ → Float) → ℕ → Option GainFit
fitted m c t n =
    solved (dot_to binary64 m m n) (dot_to binary64 m c n) (dot_to binary64 c c n)
    (dot_to binary64 m t n) (dot_to binary64 c t n) (dot_to binary64 t t n)

-- one gain fit: of step s at a pole, over the n ticks from 11 on of a window's moments u and rates
unfoldable pub gain_fit : Float → (u rate : ℕ → Float) → ℕ → ℕ → Float → Option GainFit
gain_fit carry u rate n s pole =
    fitted (through carry (regressor s pole u)) (through carry (λ i. one64)) (through carry (change rate)) n
