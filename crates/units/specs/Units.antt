-- Lag and acceleration of a model: 02, "Lag and push in plain units".
use Rattle.std.specs.Prelude.{◌≡◌, Bool, true, false, ◌||◌, cond, Float}
use Rattle.std.specs.Float.{binary32}
use Rattle.std.specs.Float.Ieee.{neg, add, sub, mul, div, lt, le, ne}
use Rattle.float.specs.Values.{zero32, one32, max_zero}
use Rattle.float.specs.Log.{log_of}
use Rattle.delay.specs.declared.RateModel.{RateModel}
use Rattle.std.specs.Prelude.{Option, Some, None}
use Rattle.units.specs.declared.Plain.{Plain}

-- "The three moment weights are added left to right, with no zero before them."
unfoldable pub effect_of : (m0 m1 m2 : Float) → Float
effect_of m0 m1 m2 = add binary32 (add binary32 m0 m1) m2

-- "A pole of zero or below has lag 0. Any other has lag -dt_s over the logarithm."
unfoldable pub lag_of : (dt pole : Float) → Float
lag_of dt pole = cond (lt zero32 pole) (div binary32 (neg dt) (log_of pole)) zero32

-- "The acceleration is the effect over (1 - max(pole, 0))·dt_s."
unfoldable pub accel_of : (effect dt pole : Float) → Float
accel_of effect dt pole = div binary32 effect (mul binary32 (sub binary32 one32 (max_zero binary32 pole)) dt)

abbrev pub unless : Bool → Float → Float → Option Plain
unless true lag accel = None
unless false lag accel = Some (record { lag_s = lag; accel_radps2 = accel })

-- "A pole of 1 or more, or NaN, has neither lag nor acceleration."
unfoldable pub units_at : (effect dt pole : Float) → Option Plain
units_at effect dt pole = unless (le one32 pole || ne pole pole) (lag_of dt pole) (accel_of effect dt pole)

-- "The pole is minus the second rate weight."
unfoldable pub units_of : RateModel → Option Plain
units_of m = units_at (effect_of m.m0 m.m1 m.m2) m.dt_s (neg m.r2)

-- a lag, where there is one, is neither NaN nor negative
pub record Proper (x : Float) : Type 0 where
  pub a_number : ne x x ≡ false
  pub not_below : lt x zero32 ≡ false

abbrev pub ProperLag : Option Plain → Type 0
ProperLag None = Unit {0}
ProperLag (Some p) = Proper p.lag_s
