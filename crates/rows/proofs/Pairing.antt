-- Which moments meet which tick, and which ticks are rows.
use Rattle.std.proofs.Math.Bool.{and-false}
use Prim.Native.Nat.{ℕ, zero, suc, ◌+◌, ◌-◌, ◌<◌, ◌≤◌}
use mathlib.Core.Path.{◌≡◌, refl, ap, fun_ext}
use mathlib.Core.Bool.{Bool, true, false, not, cond}
use mathlib.Core.Logic.{⊎_elim}
use mathlib.Core.List.{List}
use native.Mathlib.Nat.{eq-or-lt_of_le}
use native.Mathlib.Omega.{arith}
use borrow.Author.Tests.{lt-leb}
use lib.ListN.{length}
use lib.Ieee.{Float, binary32, add}
use Rattle.float.specs.Series.{at}
use Rattle.window.specs.Walk.{run, mark_at, is_row}
use Rattle.window.specs.Runs.{good_runs, rows_of}
use Rattle.window.proofs.Rows.{sums}
use Rattle.least_squares.specs.declared.Sums.{Sums}
use Rattle.rows.specs.Rows.{regressors, sum_rows, sum_ticks, sums_by, window_sums}

-- "moment k+1-d is the first moment in the row of tick k", and the two before it follow
module _ (rates moments : List Float) (d k : ℕ) where
  pub first_moment : at (regressors rates moments d k) 2 ≡ at moments (k + 1 - d)
  unfolding regressors
  first_moment = refl

  pub second_moment : at (regressors rates moments d k) 3 ≡ at moments (k - d)
  unfolding regressors
  second_moment = refl

  pub third_moment : at (regressors rates moments d k) 4 ≡ at moments (k - 1 - d)
  unfolding regressors
  third_moment = refl

-- the run just before tick k is no longer than the ticks since a held one
since : (mark : ℕ → Bool) (h k : ℕ) → mark h ≡ true → h < k → run mark k + suc h ≤ k
unfolding run
since mark h zero e l = absurd (omega arith)
since mark h (suc k) e l =
    let g : h ≤ k = omega arith in
    ⊎_elim
    (λ (q : h ≡ k). rw (← q, e) (omega arith))
    (λ (q : h < k). later (mark k) (run mark k) h k q (since mark h k e q))
    (eq-or-lt_of_le g)
  where
    later : (b : Bool) (r h k : ℕ) → h < k → r + suc h ≤ k → cond b 0 (suc r) + suc h ≤ suc k
    later true r h k q l = omega arith
    later false r h k q l = omega arith

-- "A held tick empties the history": neither it nor one of the 11 ticks after it is a row
pub history_emptied : (marks : List Bool) (h k : ℕ) → mark_at marks h ≡ true → h ≤ k → k < h + 12 → is_row (mark_at marks k) (run (mark_at marks) k) ≡ false
history_emptied marks h k e l g =
    ⊎_elim
    (λ (q : h ≡ k). rw (← q, e))
    (λ (q : h < k).
    let s = since (mark_at marks) h k e q in
    let r : run (mark_at marks) k < 11 = omega arith in
    rw (lt-leb 11 (run (mark_at marks) k) r) (and-false (not (mark_at marks k))))
    (eq-or-lt_of_le l)

-- the sums over a window are the sums over its rows, as the good runs have them, in tick order
module _ (marks : List Bool) where
  total : (f : ℕ → Float) (s : Float) → sum_rows marks (length marks) f s ≡ sum_ticks (rows_of (good_runs marks)) f s
  unfolding sum_rows sum_ticks
  total f s = sums marks (λ (x : Float) (k : ℕ). add binary32 x (f k)) s

  pub over_exactly_the_rows : (rates moments : List Float) (d : ℕ) (start : Sums)
      → window_sums rates moments marks (length marks) d start ≡ sums_by (sum_ticks (rows_of (good_runs marks))) rates moments d start
  unfolding window_sums
  over_exactly_the_rows rates moments d start = ap (λ (t : (ℕ → Float) → Float → Float). sums_by t rates moments d start) (fun_ext (λ f. fun_ext (λ s. total f s)))
