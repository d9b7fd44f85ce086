-- The stages of the recorded fit from the shared sums of whole arrays and the count n of what is stored in them.
-- proofs/Prefix.antt shows that they are those of `Classify` for the first n samples.
use Rattle.std.specs.Prelude.{ℕ, ◌+◌, ◌≤◌, ◌≡◌, Bool, List, Option, None, length, replicate, Float}
use Rattle.std.specs.Float.{binary32}
use Rattle.std.specs.Float.Ieee.{div}
use Rattle.float.specs.Series.{fill, sum_to}
use Rattle.window.specs.Samples.{capacity}
use Rattle.delay.specs.Tie.{delay_to_fit}
use Rattle.least_squares.specs.declared.Solution.{Solution}
use Rattle.least_squares.specs.Solve.{solve}
use Rattle.shared_sums.specs.declared.SharedSums.{SharedSums}
use Rattle.delay_sums.specs.Delays.{delay_sums}
use Rattle.recorded.specs.declared.RecordedFit.{RecordedFit}
use Rattle.recorded.specs.Classify.{tie_share, max_delay, at_least_one, entries, fit_of}

-- the arrays have room for `capacity` samples, and n of them are stored
pub record Stored (rates moments : List Float) (marks : List Bool) (n : ℕ) : Type 0 where
  pub few : n ≤ capacity
  pub all_rates : length rates ≡ capacity
  pub all_moments : length moments ≡ capacity
  pub all_marks : length marks ≡ capacity

-- the fit of delay k + 1, from the shared sums
unfoldable pub solved_from : SharedSums → ℕ → Option Solution
solved_from shared k = solve (delay_sums shared (k + 1))

-- the fits of all delays, shortest first
unfoldable pub solved_list : (ℕ → Option Solution) → List (Option Solution)
solved_list f = fill (λ k l. f k) (replicate max_delay None) max_delay

-- the rows' mean dt_s, where n samples are stored
unfoldable pub rows_dt_from : SharedSums → ℕ → Float → Float
rows_dt_from shared n duration =
    div binary32 (sum_to binary32 (λ k. div binary32 duration (at_least_one n)) shared.rows) (at_least_one shared.rows)

-- the fit from the shared sums
unfoldable pub fit_from : SharedSums → ℕ → Float → Option RecordedFit
fit_from shared n duration =
    fit_of (delay_to_fit tie_share (entries (solved_from shared))) (solved_from shared) (rows_dt_from shared n duration) shared.rows
