-- What the end of a tick decides, as the structs hold it: 01, "One tick, from dt to offset".
use Rattle.std.specs.Prelude.{Bool, true, false, List, take, Float}
use Rattle.std.specs.Float.Ieee.{lt}
use Rattle.sweep.specs.declared.SquareSweep.{SquareSweep}
use Rattle.sweep.specs.Sweep.{with_amplitude}
use Rattle.window.specs.declared.Window.{Window}
use Rattle.window.specs.Samples.{Samples}
use Rattle.window.specs.Arrays.{stored_of, samples_in}
use Rattle.window.specs.declared.Readings.{Readings}
use Rattle.recorded.specs.declared.Classified.{Classified}
use Rattle.recorded.specs.Classify.{classify}
use Rattle.account.specs.declared.IdentifyStatus.TheVariants.{Running}
use Rattle.account.specs.declared.IdentifyExtension.{IdentifyExtension}
use Rattle.std.specs.Prelude.{Option, Some, None}
use Rattle.account.specs.Probe.{Standing, Closing, finished, takes, close}
use Rattle.account.specs.Account.{is_integrated}
use Rattle.closing.specs.declared.Tick.{Tick}
use Rattle.closing.specs.declared.Stand.{Stand}
use Rattle.closing.specs.declared.Ending.{Ending}

-- where a probe stands
abbrev pub stand_of : Standing → Stand
stand_of s = record { status = s.status; gain_fits = s.fits }

-- how a tick ends
abbrev pub ending_of : Closing → Ending
ending_of c = record {
  duration_s = c.end;
  noisy = c.unused;
  sweep = c.sweep;
  stand = stand_of c.standing;
}

-- an ending with these fields
abbrev pub ending : Float → Option IdentifyExtension → SquareSweep → Stand → Ending
ending end unused s z = record { duration_s = end; noisy = unused; sweep = s; stand = z }

-- with the end time still ahead
abbrev pub ahead_of : (now end : Float) → Option IdentifyExtension → SquareSweep → Ending
ahead_of now end unused s = ending end unused s (record { status = Running now; gain_fits = 0 })

-- how the tick at `now` ends for a probe with this end time, unused extension, sweep and samples; first whether the other axis asks
abbrev pub closed_by : Bool → (now end : Float) → Option IdentifyExtension → SquareSweep → Samples → Ending
closed_by asked now end unused sweep w = ending_of (close now w asked (lt now end) end unused sweep)

-- where a class leads, from the samples that a window has in its arrays
abbrev pub finished_in : Classified → Window → (rates moments : List Float) → Standing
finished_in class w rates moments = finished class (take (stored_of w) rates) (take (stored_of w) moments) w.duration_s

-- running, or where the class leads
unfoldable pub stands_by : Bool → Float → Classified → Window → (rates moments : List Float) → Standing
stands_by true now class w rates moments = record { status = Running now; fits = 0 }
stands_by false now class w rates moments = finished_in class w rates moments

-- the class of the samples
abbrev pub class_of : Samples → Classified
class_of w = classify w.rates w.moments w.marks w.duration

-- ---- the same in two halves: what the tick finds, and how it then ends
-- "Elapsed below duration_s: go on. Otherwise classify."
unfoldable pub due_by : Bool → Samples → Option Classified
due_by true w = None
due_by false w = Some (class_of w)

-- "if either window is integrated when duration_s is reached"
unfoldable pub asks_of : Option Classified → Bool
asks_of None = false
asks_of (Some class) = is_integrated class

-- by the extension that is taken, and the class
unfoldable pub ended_by : Option IdentifyExtension → Classified → Float → Window → Float → Option IdentifyExtension → SquareSweep → (rates moments : List Float) → Ending
ended_by None class now w end unused s rates moments = ending end unused s (stand_of (stands_by false now class w rates moments))
ended_by (Some x) class now w end unused s rates moments =
    ending x.duration_s None (with_amplitude s x.amplitude) (stand_of (stands_by (lt now x.duration_s) now class w rates moments))

unfoldable pub closed_due : Option Classified → Bool → Float → Window → Float → Option IdentifyExtension → SquareSweep → (rates moments : List Float) → Ending
closed_due None asked now w end unused s rates moments = ahead_of now end unused s
closed_due (Some class) asked now w end unused s rates moments = ended_by (takes asked class unused) class now w end unused s rates moments

-- ---- as the contracts name them
-- the samples of a window as a fit reads it; offsets enter no fit, so they may be any
abbrev pub samples_read : Readings → List Float → Samples
samples_read r offsets = samples_in r.window r.rates.now r.moments.now offsets r.held.now

-- the end of a tick of a probe that flies alone
abbrev pub closed_alone : Tick → Samples → Ending
closed_alone t w = closed_by false t.now_s t.end_s t.noisy t.sweep w

-- the end that the class of a window leads to, wherever the end time is
abbrev pub ended_alone : Tick → Readings → Samples → Ending
ended_alone t r w = ended_by (takes false (class_of w) t.noisy) (class_of w) t.now_s r.window t.end_s t.noisy t.sweep r.rates.now r.moments.now
