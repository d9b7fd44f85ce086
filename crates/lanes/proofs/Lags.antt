-- Three lags and the lanes that they make, one moment after another.
use Rattle.std.proofs.Common.{◌≡◌, ℕ, zero, suc, ◌+◌, ◌/◌, ◌%◌, ◌<◌, ◌≤◌, List, [], ◌∷◌, ◌++◌, length, take, drop, set, refl, add-one, arith}
use lib.Ieee.{Float, binary32, add, sub, mul}
use Rattle.float.specs.Values.{one32}
use Rattle.float.specs.Series.{at, fill}
use Rattle.float.proofs.Fill.{fill_more, fill_front}
use Rattle.gain.specs.Gain.{blend}
use Rattle.lanes.specs.Lanes.{lane_count, each_pole, each_lane, lag_on, lags_on, felt_on, tick_on, Block}

pub three_poles : (l : List Float) → length l ≡ 3 → l ≡ each_pole (at l)
three_poles (a ∷ b ∷ c ∷ []) e = refl
three_poles [] e = absurd (omega arith)
three_poles (a ∷ []) e = absurd (omega arith)
three_poles (a ∷ b ∷ []) e = absurd (omega arith)
three_poles (a ∷ b ∷ c ∷ d ∷ l) e = absurd (omega arith)

pub pole_at : (f : ℕ → Float) (q : ℕ) → q < 3 → at (each_pole f) q ≡ f q
pole_at f zero h = refl
pole_at f (suc zero) h = refl
pole_at f (suc (suc zero)) h = refl
pole_at f (suc (suc (suc q))) h = absurd (omega arith)

pub lane_at : (f : ℕ → Float) (h : ℕ) → h < lane_count → at (each_lane f) h ≡ f h
lane_at f zero p = refl
lane_at f (suc zero) p = refl
lane_at f (suc (suc zero)) p = refl
lane_at f (suc (suc (suc zero))) p = refl
lane_at f (suc (suc (suc (suc zero)))) p = refl
lane_at f (suc (suc (suc (suc (suc zero))))) p = refl
lane_at f (suc (suc (suc (suc (suc (suc h)))))) p = absurd (omega arith)

module _ (poles l : List Float) (u : ℕ → Float) (ticks₀ : List (List Float)) where
  -- what a block's loop has after k ticks: the lags, the same in f64, and the ticks that are filled
  pub record Ticks (k : ℕ) (on older : List Float) (ticks : List (List Float)) : Type 0 where
    pub lagged : on ≡ lags_on poles l u k
    pub widened : older ≡ lags_on poles l u k
    pub lanes : ticks ≡ fill (λ k t. tick_on poles l u k) ticks₀ k

  pub begin : (older : List Float) → length l ≡ 3 → older ≡ each_pole (at l) → Ticks 0 l older ticks₀
  unfolding lag_on fill
  begin older e o = record { lagged = three_poles l e; widened = o; lanes = refl }

  pub turn : (k : ℕ) (on older next newer tick : List Float) (ticks : List (List Float)) → Ticks k on older ticks
      → next ≡ each_pole (λ q. add binary32 (mul binary32 (at poles q) (at on q)) (mul binary32 (sub binary32 one32 (at poles q)) (u k)))
      → newer ≡ each_pole (at next) → tick ≡ each_lane (λ h. blend (h % 2) (at newer (h / 2)) (at older (h / 2))) → Ticks (k + 1) next newer (set ticks k tick)
  unfolding lag_on felt_on
  turn k on older next newer tick ticks t a b c =
      let next_is : next ≡ lags_on poles l u (k + 1) = rw add-one (rw (a, t.lagged) refl) in
      let newer_is : newer ≡ lags_on poles l u (k + 1) = rw (b, next_is) refl in
      record {
        lagged = next_is;
        widened = newer_is;
        lanes = fill_more _ _ ticks k (k + 1) tick t.lanes (rw (c, newer_is, t.widened, add-one) refl) (add-one k);
      }

-- the first n ticks are a block's
pub ended : (poles l : List Float) (u : ℕ → Float) (all : List (List Float)) (n k : ℕ) (on older : List Float) (ticks : List (List Float))
    → Ticks poles l u (take n all) k on older ticks → k ≡ n → n ≤ length all → Block poles l u n all (ticks ++ drop n all) on
ended poles l u all n k on older ticks t e h = record {
  lanes = rw (t.lanes, e) (fill_front (tick_on poles l u) all n h);
  lagged = rw e at t.lagged;
}
