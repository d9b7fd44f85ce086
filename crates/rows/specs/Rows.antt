-- The rows of the recorded fit and their sums: 01, "The recorded fit". A window is its rates, moments and held marks by tick.
use Rattle.std.specs.Prelude.{ℕ, zero, suc, ◌+◌, ◌-◌, min, max, Bool, cond, replicate, Float}
use mathlib.Core.List.{List, [], ◌∷◌, foldl}
use Rattle.std.specs.Float.{binary32}
use Rattle.std.specs.Float.Ieee.{add, sub, mul}
use Rattle.float.specs.Values.{zero32, one32}
use Rattle.float.specs.Series.{at}
use Rattle.window.specs.Walk.{over, is_row, mark_at}
use Rattle.least_squares.specs.declared.Sums.{Sums}

-- "Delay d is 1 to 10": what is outside is read as the nearest of them
abbrev pub delay_within : ℕ → ℕ
delay_within d = max 1 (min d 10)

-- how many good ticks stand in a row once a tick with this mark is counted, to 12: "at least the 12th of its run"
abbrev pub next_run : Bool → ℕ → ℕ
next_run held run = cond held 0 (min (suc run) 12)

-- "target rate(k) - rate(k-1)"
unfoldable pub target : List Float → ℕ → Float
target rates k = sub binary32 (at rates k) (at rates (k - 1))

-- "terms rate(k-1), rate(k-1) - rate(k-2), moments k+1-d, k-d, k-1-d, and 1"
unfoldable pub regressors : List Float → List Float → ℕ → ℕ → List Float
regressors rates moments d k =
    at rates (k - 1) ∷
    sub binary32 (at rates (k - 1)) (at rates (k - 2)) ∷
    at moments (k + 1 - d) ∷ at moments (k - d) ∷ at moments (k - 1 - d) ∷ one32 ∷ []

-- term i times term j, the entry in row i and column j of the normal equations
unfoldable pub product : List Float → ℕ → ℕ → Float
product terms i j = mul binary32 (at terms i) (at terms j)

-- term i times the target
unfoldable pub projection : List Float → Float → ℕ → Float
projection terms t i = mul binary32 (at terms i) t

-- each of the first n entries by f, from its place and itself
unfoldable pub each : {A : Type 0} → ℕ → (ℕ → A → A) → List A → List A
each zero f l = l
each (suc n) f [] = []
each (suc n) f (x ∷ l) = f zero x ∷ each n (λ k y. f (suc k) y) l

-- One delay's sums, from a start, where `total f s` adds up f over the ticks that are rows, from s:
-- Σ φ·φᵀ, Σ φ·t and Σ t², each product rounded and then added
unfoldable pub sums_by : ((ℕ → Float) → Float → Float) → List Float → List Float → ℕ → Sums → Sums
sums_by total rates moments d start = record {
  normal = each 6 (λ j column. each 6 (λ i s. total (λ k. product (regressors rates moments d k) i j) s) column) start.normal;
  projected = each 6 (λ i s. total (λ k. projection (regressors rates moments d k) (target rates k) i) s) start.projected;
  target_squared = total (λ k. mul binary32 (target rates k) (target rates k)) start.target_squared;
}

-- "Sums start at 0"
unfoldable pub no_sums : Sums
no_sums = record { normal = replicate 6 (replicate 6 zero32); projected = replicate 6 zero32; target_squared = zero32 }

-- s + Σ f(k) over the ticks k below n that are rows, in tick order. "A good tick k makes a row if it is at least the 12th of its run."
unfoldable pub sum_rows : List Bool → ℕ → (ℕ → Float) → Float → Float
sum_rows marks n f s = over is_row (mark_at marks) (λ (x : Float) (k : ℕ). add binary32 x (f k)) s n

-- s + Σ f(k) over a list of ticks
unfoldable pub sum_ticks : List ℕ → (ℕ → Float) → Float → Float
sum_ticks ticks f s = foldl (λ (x : Float) (k : ℕ). add binary32 x (f k)) s ticks

-- the sums of delay d over the rows among a window's first n ticks, from a start
unfoldable pub window_sums : List Float → List Float → List Bool → ℕ → ℕ → Sums → Sums
window_sums rates moments marks n d start = sums_by (sum_rows marks n) rates moments d start
