-- Six series side by side, a block of ticks at a time: how the code keeps the regressors of three poles. The regressor itself is in gain's Gain.antt.
use Rattle.std.specs.Prelude.{◌≡◌, ℕ, zero, suc, ◌+◌, ◌*◌, ◌/◌, ◌%◌, List, [], ◌∷◌, Float}
use Rattle.std.specs.Float.{binary32}
use Rattle.std.specs.Float.Ieee.{add, sub, mul}
use Rattle.float.specs.Values.{one32}
use Rattle.float.specs.Series.{at, fill}
use Rattle.gain.specs.Gain.{blend, felt}

-- three poles at once, two lanes to a pole: its whole ticks, and then its half ticks
abbrev pub lane_count : ℕ
lane_count = 6

-- a window of 2,048 ticks has 16 blocks
abbrev pub block_ticks : ℕ
block_ticks = 128

abbrev pub last_block : ℕ
last_block = 15

-- the moments from block b on
abbrev pub block_moments : (ℕ → Float) → ℕ → ℕ → Float
block_moments u b i = u (b * block_ticks + i)

-- three values, one to a pole
abbrev pub each_pole : (ℕ → Float) → List Float
each_pole f = f 0 ∷ f 1 ∷ f 2 ∷ []

-- six values, one to a lane
abbrev pub each_lane : (ℕ → Float) → List Float
each_lane f = f 0 ∷ f 1 ∷ f 2 ∷ f 3 ∷ f 4 ∷ f 5 ∷ []

-- the moments felt in lane h
abbrev pub lane_series : List Float → (ℕ → Float) → ℕ → ℕ → Float
lane_series poles u h = felt (at poles (h / 2)) u (h % 2)

-- a lag that goes on from s, after n moments more: `lag_to` of lags, from any start
unfoldable pub lag_on : Float → Float → (ℕ → Float) → ℕ → Float
lag_on pole s u zero = s
lag_on pole s u (suc n) = add binary32 (mul binary32 pole (lag_on pole s u n)) (mul binary32 (sub binary32 one32 pole) (u n))

-- three lags that go on from l
abbrev pub lags_on : (poles l : List Float) → (ℕ → Float) → ℕ → List Float
lags_on poles l u n = each_pole (λ q. lag_on (at poles q) (at l q) u n)

-- the moments felt from there on: `felt` of gain, from any start
unfoldable pub felt_on : Float → Float → (ℕ → Float) → ℕ → ℕ → Float
felt_on pole s u h j = blend h (lag_on pole s u (suc j)) (lag_on pole s u j)

-- those felt in lane h, where the lag of pole q goes on from entry q of l
abbrev pub lane_on : (poles l : List Float) → (ℕ → Float) → ℕ → ℕ → Float
lane_on poles l u h = felt_on (at poles (h / 2)) (at l (h / 2)) u (h % 2)

-- the six lanes of tick k
abbrev pub tick_on : (poles l : List Float) → (ℕ → Float) → ℕ → List Float
tick_on poles l u k = each_lane (λ h. lane_on poles l u h k)

-- n ticks of three lags that go on from l: the ticks that are filled into a list, and how the lags stand after them
pub record Block (poles l : List Float) (u : ℕ → Float) (n : ℕ) (ticks₀ ticks : List (List Float)) (r : List Float) : Type 0 where
  pub lanes : ticks ≡ fill (λ k t. tick_on poles l u k) ticks₀ n
  pub lagged : r ≡ lags_on poles l u n
