-- The call of each axis, for a wish of any kind: it is asked by the other axis's wish.
use mathlib.Core.Path.{◌≡◌, refl}
use mathlib.Core.Bool.{Bool, false}
use Rattle.account.specs.Probe.{Call}
use Rattle.two_axis.specs.Axes.{Axis, first, second, TwoCall, call_of, tied}

module _ {S : Type 0} (wish : S → Call → Bool) (s : Axis → S) (c : TwoCall) where
  pub tied_first : tied wish s c first ≡ call_of c first (wish (s second) (call_of c second false))
  tied_first = refl

  pub tied_second : tied wish s c second ≡ call_of c second (wish (s first) (call_of c first false))
  tied_second = refl
