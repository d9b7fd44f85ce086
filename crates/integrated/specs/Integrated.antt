-- The integrated fit of a window: 01, "The integrated fit and its refinement".
use Rattle.std.specs.Prelude.{ℕ, zero, suc, ◌+◌, ◌-◌, ◌*◌, Bool, true, false, List, length, replicate, from_bits, nat_le, Float}
use Rattle.std.specs.Float.{binary32}
use Rattle.std.specs.Float.Ieee.{add, sub, mul, div, neg}
use Rattle.float.specs.Values.{zero32, one32, whole32}
use Rattle.float.specs.Series.{at, fill}
use Rattle.delay.specs.declared.RateModel.{RateModel}
use Rattle.delay.specs.declared.Entry.{Entry}
use Rattle.std.specs.Prelude.{Option, Some, None}
use Rattle.delay.specs.HalfTicks.{of_integrated}
use Rattle.delay.specs.Tie.{delay_to_fit, entry_count}
use Rattle.gain.specs.declared.GainFit.{GainFit}
use Rattle.grid.specs.declared.LagFit.{LagFit}
use Rattle.golden.specs.declared.Refined.{Refined}
use Rattle.integrated.specs.declared.IntegratedFit.{IntegratedFit}
use Rattle.lags.specs.Lags.{lag_count, carry_of}
use Rattle.gain.specs.Gain.{first_tick, step_count, is_half, gain_fit}
use Rattle.grid.specs.Grid.{kept_at}
use Rattle.golden.specs.Golden.{refined}

-- "The tie rule with gain as effect"
unfoldable pub entry_of : Option LagFit → Option Entry
entry_of None = None
entry_of (Some b) = Some (record { effect = b.fit.gain; residual = b.fit.residual })

unfoldable pub entries : (ℕ → Option LagFit) → List (Option Entry)
entries kept = fill (λ s l. entry_of (kept s)) (replicate entry_count None) step_count

-- the share of the gain on the newer moment, a, and on the older one, b: (1, 0) of a whole step, (0.5, 0.5) of a half one
abbrev pub newer_share : ℕ → Float
newer_share zero = one32
newer_share (suc h) = from_bits binary32 0x3f00_0000

abbrev pub older_share : ℕ → Float
older_share zero = zero32
older_share (suc h) = from_bits binary32 0x3f00_0000

-- "Model: rate weights 1 + pole, -pole; moment weights a·gain·(1 - pole), b·gain·(1 - pole), 0"
unfoldable pub model_of : LagFit → ℕ → Float → RateModel
model_of b p dt = record {
  r1 = add binary32 one32 b.bracket.pole;
  r2 = neg b.bracket.pole;
  m0 = mul binary32 (mul binary32 (newer_share (is_half (p - 1))) b.fit.gain) (sub binary32 one32 b.bracket.pole);
  m1 = mul binary32 (mul binary32 (older_share (is_half (p - 1))) b.fit.gain) (sub binary32 one32 b.bracket.pole);
  m2 = zero32;
  delay = of_integrated p;
  dt_s = dt;
}

-- "Each gain fit made counts one": 20 at each of the 129 poles
abbrev pub grid_fits : ℕ
grid_fits = suc lag_count * step_count

-- the refined candidate as a model, and two gain fits for each round made
unfoldable pub modelled : Refined → ℕ → Float → IntegratedFit
modelled r p dt = record { model = Some (model_of r.best p dt); gain_fits = grid_fits + 2 * r.rounds }

unfoldable pub no_model : ℕ → IntegratedFit
no_model n = record { model = None; gain_fits = n }

unfoldable pub chosen_from : Option LagFit → (Float → Option GainFit) → ℕ → Float → IntegratedFit
chosen_from None fit p dt = no_model grid_fits
chosen_from (Some b) fit p dt = modelled (refined fit b) p dt

-- "gives position p; step = p - 1. No position: Unexcited."
unfoldable pub chosen_at : Option ℕ → Float → (ℕ → Float → Option GainFit) → IntegratedFit
chosen_at None dt fit = no_model grid_fits
chosen_at (Some p) dt fit = chosen_from (kept_at dt fit (p - 1)) (fit (p - 1)) p dt

-- "The tie rule with gain as effect and share 0"
unfoldable pub searched : Float → (ℕ → Float → Option GainFit) → IntegratedFit
searched dt fit = chosen_at (delay_to_fit zero32 (entries (kept_at dt fit))) dt fit

-- "dt_s = duration/stored"
abbrev pub mean_dt : Float → ℕ → Float
mean_dt duration stored = div binary32 duration (whole32 stored)

-- the gain fit of each step at each pole, of a window of n ticks
unfoldable pub window_fit : List Float → List Float → Float → ℕ → ℕ → Float → Option GainFit
window_fit rates moments dt n s pole = gain_fit (carry_of dt) (at moments) (at rates) (n - first_tick) s pole

-- "stored <= 12: Unexcited"
unfoldable pub fit_long : Bool → List Float → List Float → Float → ℕ → IntegratedFit
fit_long true rates moments duration n = no_model 0
fit_long false rates moments duration n = let dt = mean_dt duration n in searched dt (window_fit rates moments dt n)

unfoldable pub fit_integrated : List Float → List Float → Float → IntegratedFit
fit_integrated rates moments duration = fit_long (nat_le (length rates) (first_tick + 1)) rates moments duration (length rates)
