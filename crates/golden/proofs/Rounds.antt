-- One round of the golden section, at any fit: what it leaves of the search, by the answers of the two trials. What is left gives the answer.
use Prim.Native.Nat.{ℕ, suc, ◌+◌, ◌-◌, ◌<◌, ◌≤◌}
use mathlib.Core.Path.{◌≡◌, refl}
use mathlib.Core.Bool.{true, false}
use native.Mathlib.Omega.{arith}
use native.Mathlib.Numerals.{add-one}
use lib.Ieee.{Float, lt}
use Rattle.std.specs.Prelude.{Option, Some, None}
use Rattle.gain.specs.declared.GainFit.{GainFit}
use Rattle.grid.specs.declared.LagFit.{LagFit}
use Rattle.grid.specs.Grid.{lag_fit, better_of}
use Rattle.golden.specs.Golden.{golden, tried, left_of, right_of, max_rounds}

pub done : (fit : Float → Option GainFit) (r : ℕ) (low high : Float) (best : LagFit) → max_rounds ≤ r
    → golden fit (max_rounds - r) low high best r ≡ record { best = best; rounds = r }
unfolding golden
done fit r low high best h = let e : max_rounds - r ≡ 0 = omega arith in rw (e, golden) refl

module _ (fit : Float → Option GainFit) (r : ℕ) (low high : Float) (best : LagFit) (h : r < max_rounds) where
  more : max_rounds - r ≡ suc (max_rounds - (r + 1))
  more = omega arith

  pub no_left : fit (left_of low high) ≡ None → golden fit (max_rounds - r) low high best r ≡ record { best = best; rounds = r + 1 }
  unfolding golden tried
  no_left e = rw (more, golden, e, add-one) refl

  pub no_right : (a : GainFit) → fit (left_of low high) ≡ Some a → fit (right_of low high) ≡ None
      → golden fit (max_rounds - r) low high best r ≡ record { best = best; rounds = r + 1 }
  unfolding golden tried
  no_right a d e = rw (more, golden, d, e, add-one) refl

  pub keep_left : (a b : GainFit) → fit (left_of low high) ≡ Some a → fit (right_of low high) ≡ Some b → lt a.residual b.residual ≡ true
      → golden fit (max_rounds - r) low high best r
      ≡ golden fit (max_rounds - (r + 1)) low (right_of low high) (better_of best (lag_fit (record { pole = left_of low high; low = low; high = high }) a)) (r + 1)
  unfolding golden tried
  keep_left a b d e l = rw (more, golden, d, e, l, add-one) refl

  pub keep_right : (a b : GainFit) → fit (left_of low high) ≡ Some a → fit (right_of low high) ≡ Some b → lt a.residual b.residual ≡ false
      → golden fit (max_rounds - r) low high best r
      ≡ golden fit (max_rounds - (r + 1)) (left_of low high) high (better_of best (lag_fit (record { pole = right_of low high; low = low; high = high }) b)) (r + 1)
  unfolding golden tried
  keep_right a b d e l = rw (more, golden, d, e, l, add-one) refl
