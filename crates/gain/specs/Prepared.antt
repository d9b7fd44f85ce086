-- What the code keeps for the gain fits of a window: the two leaky series that no pole and no step is in, and their sums.
-- Inner functions are stated by these; the fit itself is in Gain.antt.
use Rattle.std.specs.Prelude.{◌≡◌, ℕ, ◌<◌, min, List, fold, zip, Float, Option}
use Rattle.std.specs.Float.{binary64}
use Rattle.std.specs.Float.Ieee.{add, mul}
use Rattle.float.specs.Values.{zero64, one64}
use Rattle.float.specs.Series.{at, dot_to, fill}
use Rattle.gain.specs.declared.GainFit.{GainFit}
use Rattle.gain.specs.declared.Shared.{Shared}
use Rattle.gain.specs.declared.FitInput.{FitInput}
use Rattle.gain.specs.declared.StepSums.{StepSums}
use Rattle.gain.specs.Gain.{regressor, change, through, solved}

-- a series as the entries of a fill
abbrev pub series : (ℕ → Float) → ℕ → List Float → Float
series f k l = f k

-- what a function answers at each of the first n places is x
abbrev pub Adds : (ℕ → Float → Type 0) → ℕ → (ℕ → Float) → Type 0
Adds answers n x = (i : ℕ) (y : Float) → i < n → answers i y → y ≡ x i

-- the sum of the products of two lists, entry by entry, added left to right from +0
abbrev pub products : List Float → List Float → Float
products a b = fold (λ s q. add binary64 s (mul binary64 q.0 q.1)) zero64 (zip a b)

-- the ticks from 11 on of a full window
abbrev pub most_ticks : ℕ
most_ticks = 2037

-- the ticks that are fitted, at most those of a full window
abbrev pub ticks_of : Shared → ℕ
ticks_of w = min w.ticks most_ticks

-- the fit of a series m beside two leaky series c and t, with the sums of these as they are kept
unfoldable pub fitted_with : Shared → (m c t : ℕ → Float) → Option GainFit
fitted_with w m c t =
    solved (dot_to binary64 m m (ticks_of w)) (dot_to binary64 m c (ticks_of w)) w.cc
    (dot_to binary64 m t (ticks_of w)) w.ct w.tt

-- that of step s at a pole, of the moments u
abbrev pub fit_with : Shared → (u c t : ℕ → Float) → ℕ → Float → Option GainFit
fit_with w u c t s pole = fitted_with w (through w.carry (regressor s pole u)) c t

-- the fit of a step at a pole, from what a window's fits read
abbrev pub fit_of : FitInput → ℕ → Float → Option GainFit
fit_of i = fit_with i.shared (at i.moments.now) (at i.constants.now) (at i.changes.now)

-- the three sums that a step's series m is in, of the first n places
pub record Summed (m c t : ℕ → Float) (n : ℕ) (r : StepSums) : Type 0 where
  pub squares : r.mm ≡ dot_to binary64 m m n
  pub constants : r.mc ≡ dot_to binary64 m c n
  pub targets : r.mt ≡ dot_to binary64 m t n

-- the three sums that it is not in, as they are kept
pub record Totals (c t : ℕ → Float) (w : Shared) : Type 0 where
  pub constants : w.cc ≡ dot_to binary64 c c w.ticks
  pub both : w.ct ≡ dot_to binary64 c t w.ticks
  pub targets : w.tt ≡ dot_to binary64 t t w.ticks

-- a window's leaky series of 1 and of the changes, filled into two lists, and their sums
pub record Prepared (carry : Float) (rate : ℕ → Float) (n : ℕ) (cs₀ ts₀ cs ts : List Float) (w : Shared) : Type 0 where
  pub constants : cs ≡ fill (series (through carry (λ i. one64))) cs₀ n
  pub changes : ts ≡ fill (series (through carry (change rate))) ts₀ n
  pub keeps : w.carry ≡ carry
  pub counts : w.ticks ≡ n
  pub totals : Totals (at cs) (at ts) w
