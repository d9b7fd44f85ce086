-- What the grid's functions are stated by: tables of what the 20 steps keep.
use Rattle.std.specs.Prelude.{ℕ, suc, ◌<◌, ◌≡◌, List, get_or, replicate, Float, Option, None}
use Rattle.float.specs.Series.{fill}
use Rattle.lags.specs.Lags.{lag_count, pole_of}
use Rattle.gain.specs.declared.GainFit.{GainFit}
use Rattle.gain.specs.Gain.{step_count}
use Rattle.grid.specs.declared.Bracket.{Bracket}
use Rattle.grid.specs.declared.LagFit.{LagFit}
use Rattle.grid.specs.Grid.{candidate, keep_of, kept_to, candidates, kept_at, KeepsFirst}

-- what step s keeps of the first i poles
abbrev pub kept_below : Float → (ℕ → Float → Option GainFit) → ℕ → ℕ → Option LagFit
kept_below dt fit i s = kept_to (candidates (pole_of dt) lag_count (fit s)) i

-- what a step keeps by a table, against its fit at one more pole
abbrev pub against : Bracket → List (Option GainFit) → ℕ → List (Option LagFit) → Option LagFit
against b fits s kept = keep_of (get_or kept s None) (candidate b (get_or fits s None))

-- what each step keeps, as a list
abbrev pub table_of : (ℕ → Option LagFit) → List (Option LagFit)
table_of kept = fill (λ s l. kept s) (replicate step_count None) step_count

-- what the grid gives: the table of what each step keeps of its candidates, which is the first of the least residual
pub record KeptTable (dt : Float) (fit : ℕ → Float → Option GainFit) (kept : List (Option LagFit)) : Type 0 where
  pub is : kept ≡ table_of (kept_at dt fit)
  pub first : (s : ℕ) → s < step_count → KeepsFirst (candidates (pole_of dt) lag_count (fit s)) (suc lag_count) (get_or kept s None)
