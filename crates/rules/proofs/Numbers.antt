-- A rule's number is above 0, so that 0 says that none is broken, and at most 10.
use Prim.Native.Nat.{suc, ◌-◌, ◌≤◌}
use mathlib.Core.Path.{◌≡◌, refl}
use native.Mathlib.Omega.{arith}
use Rattle.rules.specs.declared.Rule.{Rule}
use Rattle.rules.specs.declared.Rule.TheVariants.{Amplitude, Duration, Washout, ExtensionAmplitude, ExtensionDuration, Dt, Elapsed, Ticks, Form, UnevenDt}
use Rattle.rules.specs.Numbers.{number_of}

pub above_0 : (r : Rule) → number_of r ≡ suc (number_of r - 1)
unfolding number_of
above_0 Amplitude = refl
above_0 Duration = refl
above_0 Washout = refl
above_0 ExtensionAmplitude = refl
above_0 ExtensionDuration = refl
above_0 Dt = refl
above_0 Elapsed = refl
above_0 Ticks = refl
above_0 Form = refl
above_0 UnevenDt = refl

pub at_most_10 : (r : Rule) → number_of r ≤ 10
unfolding number_of
at_most_10 Amplitude = omega arith
at_most_10 Duration = omega arith
at_most_10 Washout = omega arith
at_most_10 ExtensionAmplitude = omega arith
at_most_10 ExtensionDuration = omega arith
at_most_10 Dt = omega arith
at_most_10 Elapsed = omega arith
at_most_10 Ticks = omega arith
at_most_10 Form = omega arith
at_most_10 UnevenDt = omega arith
