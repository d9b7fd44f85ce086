-- Lags, poles and the lagged moment: 01, "The integrated fit and its refinement".
use Rattle.std.specs.Prelude.{ℕ, zero, suc, ◌<◌, ◌≡◌, true, false, Float}
use Rattle.std.specs.Float.{binary32}
use Rattle.std.specs.Float.Ieee.{of_bits, add, sub, mul, div, neg, le}
use Rattle.float.specs.Values.{zero32, one32}
use Rattle.float.specs.Exp.{exp_of}

-- 0.001, 1.05, 0.5 and 0.1
abbrev pub least_lag : Float
least_lag = of_bits binary32 0x3a83_126f

abbrev pub lag_ratio : Float
lag_ratio = of_bits binary32 0x3f86_6666

abbrev pub most_lag : Float
most_lag = of_bits binary32 0x3f00_0000

abbrev pub integration_time : Float
integration_time = of_bits binary32 0x3dcc_cccd

-- "The 128 lags are constants: 0.001, then each the last times 1.05 in f32, while at most 0.5"
abbrev pub lag_count : ℕ
lag_count = 128

unfoldable pub lag_of : ℕ → Float
lag_of zero = least_lag
lag_of (suc i) = mul binary32 (lag_of i) lag_ratio

-- "while at most 0.5": the first n values of f are at most the bar, and the next is not
pub record WhileAtMost (f : ℕ → Float) (bar : Float) (n : ℕ) : Type 0 where
  pub within : (i : ℕ) → i < n → le (f i) bar ≡ true
  pub beyond : le (f n) bar ≡ false

-- "Poles: 0.0, then expf(-dt_s/lag)"
unfoldable pub pole_of : Float → ℕ → Float
pole_of dt zero = zero32
pole_of dt (suc i) = exp_of (div binary32 (neg dt) (lag_of i))

-- "lagged = pole·lagged + (1 - pole)·moment from 0": the moments u through a lag, after the first n of them
unfoldable pub lag_to : Float → (ℕ → Float) → ℕ → Float
lag_to pole u zero = zero32
lag_to pole u (suc n) = add binary32 (mul binary32 pole (lag_to pole u n)) (mul binary32 (sub binary32 one32 pole) (u n))

-- lagged(j): once the moment of tick j is in it
abbrev pub lagged : Float → (ℕ → Float) → ℕ → Float
lagged pole u j = lag_to pole u (suc j)

-- "carry = expf(-dt_s/0.1) in f32, then widened"
unfoldable pub carry_of : Float → Float
carry_of dt = exp_of (div binary32 (neg dt) integration_time)
