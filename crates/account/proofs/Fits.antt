-- A probe made at most 2,604 gain fits.
use Prim.Native.Nat.{ℕ, zero, suc, ◌+◌, ◌-◌, ◌≤◌}
use mathlib.Core.Bool.{Bool, true, false}
use mathlib.Core.List.{List}
use native.Mathlib.Omega.{arith}
use lib.Dec.{leb}
use lib.ListN.{length}
use lib.Ieee.{Float}
use Rattle.float.specs.Values.{zero32}
use Rattle.std.specs.Prelude.{Option, Some, None}
use Rattle.delay.specs.Tie.{delay_to_fit}
use Rattle.recorded.specs.declared.Classified.{Classified}
use Rattle.recorded.specs.declared.Classified.TheVariants.{Recorded, Integrated, Unexcited, Saturated}
use Rattle.recorded.specs.Classify.{classify}
use Rattle.gain.specs.declared.GainFit.{GainFit}
use Rattle.gain.specs.Gain.{first_tick}
use Rattle.grid.specs.declared.LagFit.{LagFit}
use Rattle.golden.specs.Golden.{Round, over, on, tried, left_of, right_of, onward, golden, refined, max_rounds}
use Rattle.grid.specs.Grid.{kept_at}
use Rattle.integrated.specs.Integrated.{modelled, no_model, chosen_from, chosen_at, searched, window_fit, mean_dt, fit_long, fit_integrated}
use Rattle.integrated.specs.Integrated as integrated
use Rattle.account.specs.Probe.{finished, stands}

goes_on : (r : Round) (fit : Float → Option GainFit) (n made : ℕ) (best : LagFit)
    → ((low high : Float) (b : LagFit) → (golden fit n low high b (suc made)).rounds ≤ suc made + n)
    → (onward r (λ l h b. golden fit n l h b (suc made)) (record { best = best; rounds = suc made })).rounds ≤ made + suc n
goes_on over fit n made best h = omega arith
goes_on (on low high b) fit n made best h = omega (arith, h low high b)

rounds : (fit : Float → Option GainFit) (n : ℕ) (low high : Float) (best : LagFit) (made : ℕ) → (golden fit n low high best made).rounds ≤ made + n
unfolding golden
rounds fit zero low high best made = omega arith
rounds fit (suc n) low high best made =
    goes_on (tried low high best (fit (left_of low high)) (fit (right_of low high))) fit n made best (λ l h b. rounds fit n l h b (suc made))

from_fits : (k : Option LagFit) (fit : Float → Option GainFit) (p : ℕ) (dt : Float) → (chosen_from k fit p dt).gain_fits ≤ 2604
unfolding chosen_from no_model modelled refined
from_fits None fit p dt = omega arith
from_fits (Some b) fit p dt = omega (arith, rounds fit max_rounds b.bracket.low b.bracket.high b 0)

at_fits : (q : Option ℕ) (dt : Float) (fit : ℕ → Float → Option GainFit) → (chosen_at q dt fit).gain_fits ≤ 2604
unfolding chosen_at no_model
at_fits None dt fit = omega arith
at_fits (Some p) dt fit = from_fits (kept_at dt fit (p - 1)) (fit (p - 1)) p dt

long_fits : (b : Bool) (rates moments : List Float) (duration : Float) (n : ℕ) → (fit_long b rates moments duration n).gain_fits ≤ 2604
unfolding fit_long no_model searched
long_fits true rates moments duration n = omega arith
long_fits false rates moments duration n =
    let dt = mean_dt duration n in
    at_fits (delay_to_fit zero32 (integrated.entries (kept_at dt (window_fit rates moments dt n)))) dt (window_fit rates moments dt n)

end_fits : (x : Classified) (rates moments : List Float) (duration : Float) → (finished x rates moments duration).fits ≤ 2604
unfolding finished fit_integrated
end_fits (Recorded m) rates moments duration = omega arith
end_fits Integrated rates moments duration = long_fits (leb (length rates) (first_tick + 1)) rates moments duration (length rates)
end_fits Unexcited rates moments duration = omega arith
end_fits Saturated rates moments duration = omega arith

pub fits : (r : Bool) (e : Float) (rates moments : List Float) (marks : List Bool) (duration : Float) → (stands r e rates moments marks duration).fits ≤ 2604
unfolding stands
fits true e rates moments marks duration = omega arith
fits false e rates moments marks duration = end_fits (classify rates moments marks duration) rates moments duration
