-- The recorded fit of the stored samples is that of the whole arrays at their count.
use Prim.Native.Nat.{ℕ, ◌+◌, ◌<◌, ◌≤◌}
use mathlib.Core.Path.{◌≡◌, refl}
use mathlib.Core.Bool.{Bool}
use mathlib.Core.List.{List}
use native.Mathlib.Omega.{arith}
use lib.ListN.{length, take}
use lib.Seq.{length-take-le}
use lib.Ieee.{Float, binary32, div}
use Rattle.window.specs.Samples.{capacity}
use Rattle.window.specs.Walk.{many, is_row}
use Rattle.window.specs.Arrays.{many_to}
use Rattle.window.proofs.Prefix.{many_take}
use Rattle.window.proofs.Bounds.{many_at_most}
use Rattle.rows.specs.Rows.{no_sums}
use Rattle.rows.proofs.Prefix.{window_take, sum_take}
use Rattle.rows.proofs.Together.{alike}
use Rattle.shared_sums.specs.declared.SharedSums.{SharedSums}
use Rattle.shared_sums.specs.Shared.{shared_sums}
use Rattle.delay_sums.proofs.Same.{delay_is}
use Rattle.recorded.specs.Classify.{tie_share, max_delay, at_least_one, solved_at, rows_dt, fit_recorded}
use Rattle.recorded.specs.Stages.{Stored, solved_from, rows_dt_from, fit_from}
use Rattle.recorded.proofs.Winner.{entries_by, fit_by}

module _ {rates moments : List Float} {marks : List Bool} {n : ℕ} (w : Stored rates moments marks n) where
  many_rates : length (take n rates) ≡ n
  many_rates = length-take-le n rates (omega arith)

  many_marks : length (take n marks) ≡ n
  many_marks = length-take-le n marks (omega arith)

  module _ {shared : SharedSums} (shared_is : shared ≡ shared_sums rates moments marks n) where
    rows_is : shared.rows ≡ many_to is_row marks n
    unfolding shared_sums
    rows_is = rw shared_is

    pub few_rows : shared.rows ≤ capacity
    few_rows = omega (arith, rows_is, many_at_most is_row marks n, w.few)

    solved_cut : (k : ℕ) → k < max_delay → solved_at (take n rates) (take n moments) (take n marks) k ≡ solved_from shared k
    unfolding solved_at solved_from
    solved_cut k h =
        let p : 1 ≤ k + 1 = omega arith in
        let q : k + 1 ≤ 10 = omega arith in
        rw (shared_is, many_rates, window_take rates moments marks n (k + 1) no_sums p, delay_is rates moments marks (k + 1) n p q)

    rows_cut : many is_row (take n marks) ≡ shared.rows
    unfolding many_to
    rows_cut = rw rows_is (many_take is_row marks n many_marks)

    dt_cut : (duration : Float) → rows_dt (take n marks) (length (take n rates)) duration ≡ rows_dt_from shared n duration
    unfolding rows_dt rows_dt_from
    dt_cut duration = rw (rows_cut, many_rates, sum_take, alike marks (div binary32 duration (at_least_one n)) n, rows_is)

    pub fit_cut : (duration : Float) → fit_recorded (take n rates) (take n moments) (take n marks) duration ≡ fit_from shared n duration
    unfolding fit_recorded fit_from
    fit_cut duration =
        rw (entries_by _ (solved_from shared) solved_cut, dt_cut duration, rows_cut) (fit_by _ (solved_from shared) solved_cut tie_share _ _ _ refl)
