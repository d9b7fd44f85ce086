-- Blocks one after another: where the lags stand as after the moments before a block, its lanes are those of the whole series, and the lags stand as after its moments too.
use Rattle.std.proofs.Common.{◌≡◌, ℕ, zero, suc, ◌+◌, ◌*◌, ◌/◌, ◌%◌, ◌<◌, ◌≤◌, List, [], length, get_or, replicate, refl, ◌∙◌, arith}
use lib.Ieee.{Float}
use Rattle.float.specs.Values.{zero32}
use Rattle.float.specs.Series.{at}
use Rattle.float.proofs.Fill.{filled}
use Rattle.lags.specs.Lags.{lag_to}
use Rattle.gain.specs.Gain.{felt}
use Rattle.lanes.specs.Lanes.{lane_count, block_ticks, block_moments, each_pole, lane_series, lag_on, felt_on, lane_on, tick_on, Block}
use Rattle.lanes.proofs.Lags.{pole_at, lane_at}

module _ (pole : Float) (u : ℕ → Float) (a : ℕ) where
  lag_goes_on : (n : ℕ) → lag_on pole (lag_to pole u a) (λ i. u (a + i)) n ≡ lag_to pole u (a + n)
  unfolding lag_on lag_to
  lag_goes_on zero = let e : a + 0 ≡ a = omega arith in rw e refl
  lag_goes_on (suc n) =
      let e : a + suc n ≡ suc (a + n) = omega arith in
      rw (e, lag_goes_on n) refl

  felt_goes_on : (h j : ℕ) → felt_on pole (lag_to pole u a) (λ i. u (a + i)) h j ≡ felt pole u h (a + j)
  unfolding felt_on felt
  felt_goes_on h j =
      let e : a + suc j ≡ suc (a + j) = omega arith in
      rw (lag_goes_on (suc j), lag_goes_on j, e) refl

-- three lags after n moments
abbrev pub lags_to : List Float → (ℕ → Float) → ℕ → List Float
lags_to poles u n = each_pole (λ q. lag_to (at poles q) u n)

pub lags_begin : (poles : List Float) (u : ℕ → Float) → replicate 3 zero32 ≡ lags_to poles u 0
unfolding lag_to
lags_begin poles u = refl

module _ (poles l : List Float) (u : ℕ → Float) (b n : ℕ) (ticks₀ ticks : List (List Float)) (r : List Float) (stand : l ≡ lags_to poles u (b * block_ticks))
    (block : Block poles l (block_moments u b) n ticks₀ ticks r) where
  pub lags_go_on : r ≡ lags_to poles u (b * block_ticks + n)
  lags_go_on =
      let on = λ (q : ℕ). lag_goes_on (at poles q) u (b * block_ticks) n in
      block.lagged ∙ rw (stand, on 0, on 1, on 2) refl

  pub block_lane : n ≤ length ticks₀ → (h k : ℕ) → h < lane_count → k < n → at (get_or ticks k []) h ≡ lane_series poles u h (b * block_ticks + k)
  block_lane long h k p o =
      rw (block.lanes, filled (λ k t. tick_on poles l (block_moments u b) k) ticks₀ [] n k long o)
      (lane_at (λ i. lane_on poles l (block_moments u b) i k) h p ∙ rw (stand, pole_at (λ q. lag_to (at poles q) u (b * block_ticks)) (h / 2) (omega arith)) (felt_goes_on (at poles (h / 2)) u (b * block_ticks) (h % 2) k))
