-- One delay's least squares, from its sums: 01, "The recorded fit".
use Rattle.std.specs.Prelude.{ℕ, zero, suc, ◌<◌, ◌≡◌, Bool, true, false, not, ◌&&◌, List, Option, Some, None, Float}
use Rattle.std.specs.Float.{binary32}
use Rattle.std.specs.Float.Ieee.{sub, lt, is_nan}
use Rattle.float.specs.Values.{zero32, finite, max_zero}
use Rattle.float.specs.Series.{at, dot_to}
use Rattle.least_squares.specs.declared.Sums.{Sums}
use Rattle.least_squares.specs.declared.Solution.{Solution}
use Rattle.cholesky.specs.Cholesky.{entry_at, factor, above, forward, backward}
use Rattle.cholesky.specs.ColumnOrder.{tested_diagonal}

-- "Dots run left to right"
unfoldable pub dot : List Float → List Float → Float
dot x y = dot_to binary32 (at x) (at y) 6

-- "sum of squared targets - solution·projected", the difference before max
unfoldable pub difference_of : Float → List Float → List Float → Float
difference_of squared solution projected = sub binary32 squared (dot solution projected)

-- the first n entries are finite
unfoldable pub all_finite : List Float → ℕ → Bool
all_finite s zero = true
all_finite s (suc n) = all_finite s n && finite (at s n)

abbrev pub solution_of : List Float → Float → Solution
solution_of s r = record { c = s; residual = r }

abbrev pub fit_if : Bool → Solution → Option Solution
fit_if true s = Some s
fit_if false s = None

-- "Residual = max(.., 0); a solution or residual not finite is no fit"
-- 02, four: "a recorded fit whose difference before max is NaN counts as none"
unfoldable pub kept : List Float → Float → Option Solution
kept s difference =
    let r = max_zero binary32 difference in
    fit_if (all_finite s 6 && finite r && not (is_nan difference)) (solution_of s r)

-- the solution of L Lᵀ s = b, where L's diagonals were above 0
unfoldable pub solve_if : Bool → List (List Float) → List Float → Float → Option Solution
solve_if false l b squared = None
solve_if true l b squared = let s = backward l (forward l b) in kept s (difference_of squared s b)

unfoldable pub solve_with : List (List Float) → List (List Float) → List Float → Float → Option Solution
solve_with l a b squared = solve_if (above a l 6) l b squared

unfoldable pub solve : Sums → Option Solution
solve s = solve_with (factor s.normal) s.normal s.projected s.target_squared

-- r is the solution, and none where a diagonal, in 01's own column order, is not above 0: "A diagonal not above 0 (NaN too): no fit"
pub record IsSolved (s : Sums) (r : Option Solution) : Type 0 where
  pub is : r ≡ solve s
  pub no_fit : (j : ℕ) → j < 6 → lt zero32 (tested_diagonal (entry_at s.normal) j) ≡ false → r ≡ None
