-- How a tick ends, in two halves: what it finds, and how it then ends. Together they are the definitions' end of a tick.
use mathlib.Core.Path.{◌≡◌, refl}
use mathlib.Core.Bool.{Bool, true, false}
use mathlib.Core.List.{List}
use lib.Ieee.{Float, lt}
use Rattle.sweep.specs.declared.SquareSweep.{SquareSweep}
use Rattle.window.specs.declared.Window.{Window}
use Rattle.window.specs.Samples.{Samples}
use Rattle.window.specs.Arrays.{samples_in}
use Rattle.recorded.specs.declared.Classified.{Classified}
use Rattle.account.specs.declared.IdentifyExtension.{IdentifyExtension}
use Rattle.std.specs.Prelude.{Option, Some, None}
use Rattle.account.specs.Probe.{stands_with, stands, takes, extend, close}
use Rattle.closing.specs.Ending.{stands_by, ahead_of, ending_of, ended_by, class_of, due_by, closed_due, closed_by}

module _ (now end : Float) (unused : Option IdentifyExtension) (s : SquareSweep) (w : Window) (rates moments offsets : List Float) (marks : List Bool) where
  abbrev samples : Samples
  samples = samples_in w rates moments offsets marks

  abbrev class : Classified
  class = class_of samples

  stands_so : (r : Bool) → stands_by r now class w rates moments ≡ stands_with r now samples
  unfolding stands_by stands samples_in
  stands_so true = refl
  stands_so false = refl

  ends : (x : Option IdentifyExtension) → ended_by x class now w end unused s rates moments ≡ ending_of (extend now samples x end unused s)
  unfolding ended_by extend
  ends None = rw (stands_so false)
  ends (Some x) = rw (stands_so (lt now x.duration_s))

  closes : (asked below : Bool) → closed_due (due_by below samples) asked now w end unused s rates moments ≡ ending_of (close now samples asked below end unused s)
  unfolding closed_due due_by close stands
  closes asked true = refl
  closes asked false = ends (takes asked class unused)

  pub halves : (asked : Bool) → closed_due (due_by (lt now end) samples) asked now w end unused s rates moments ≡ closed_by asked now end unused s samples
  halves asked = closes asked (lt now end)

  -- and by the test of the end time
  pub ahead : (asked : Bool) → lt now end ≡ true → ahead_of now end unused s ≡ closed_by asked now end unused s samples
  unfolding close stands
  ahead asked below = rw below

  pub over : (asked : Bool) → lt now end ≡ false → ended_by (takes asked class unused) class now w end unused s rates moments ≡ closed_by asked now end unused s samples
  unfolding close
  over asked reached = rw reached (ends (takes asked class unused))
