-- The fit of a window reads its lists below its length alone, so the first n entries of longer lists are as good as they are.
use Rattle.std.proofs.Common.{◌≡◌, ℕ, ◌+◌, ◌-◌, ◌<◌, ◌≤◌, List, length, take, refl, arith, get_or-take, le-leb}
use borrow.Author.Tests.{lt-leb}
use lib.Ieee.{Float, nan}
use Rattle.float.specs.Series.{at}
use Rattle.lags.specs.Lags.{carry_of}
use Rattle.gain.specs.Gain.{first_tick}
use Rattle.gain.proofs.Below.{Agree}
use Rattle.gain.proofs.Window.{gain_same}
use Rattle.integrated.specs.Integrated.{no_model, searched, mean_dt, window_fit, fit_long, fit_integrated}

first_n : (l : List Float) (n : ℕ) → first_tick ≤ n → Agree (at (take n l)) (at l) (n - first_tick + first_tick)
first_n l n h i p = get_or-take n l i nan (omega arith)

window_prefix : (rates moments : List Float) (dt : Float) (n : ℕ) → first_tick ≤ n → window_fit (take n rates) (take n moments) dt n ≡ window_fit rates moments dt n
unfolding window_fit
window_prefix rates moments dt n h = λ j. λ s pole.
    gain_same (carry_of dt) (at (take n moments)) (at moments) (at (take n rates)) (at rates) (n - first_tick) s pole (first_n moments n h) (first_n rates n h) j

module _ (rates moments : List Float) (duration : Float) (n : ℕ) (long : length (take n rates) ≡ n) where
  pub short : n ≤ first_tick + 1 → no_model 0 ≡ fit_integrated (take n rates) (take n moments) duration
  unfolding fit_integrated fit_long
  short h = rw (long, le-leb n (first_tick + 1) h) refl

  pub enough : first_tick + 1 < n → searched (mean_dt duration n) (window_fit rates moments (mean_dt duration n) n) ≡ fit_integrated (take n rates) (take n moments) duration
  unfolding fit_integrated fit_long
  enough h = rw (long, lt-leb n (first_tick + 1) h, window_prefix rates moments (mean_dt duration n) n (omega arith)) refl
