-- The probe: its step, its status and its end: 01, "One tick, from dt to offset". Here the window's samples are lists in the probe.
use Rattle.std.specs.Prelude.{ℕ, zero, suc, Bool, true, false, Float, Option, Some, None}
use mathlib.Core.List.{List, [], ◌∷◌, foldl}
use Rattle.std.specs.Float.{binary32}
use Rattle.std.specs.Float.Ieee.{add, lt}
use Rattle.float.specs.Values.{zero32}
use Rattle.sweep.specs.declared.SquareSweep.{SquareSweep}
use Rattle.sweep.specs.Sweep.{started, next_sweep, with_amplitude}
use Rattle.window.specs.Samples.{Samples, no_samples, store}
use Rattle.delay.specs.declared.Delay.{Delay}
use Rattle.delay.specs.HalfTicks.{no_delay}
use Rattle.recorded.specs.declared.Classified.{Classified}
use Rattle.recorded.specs.declared.Classified.TheVariants.{Recorded, Integrated, Unexcited, Saturated}
use Rattle.recorded.specs.Classify.{classify}
use Rattle.delay.specs.declared.RateModel.{RateModel}
use Rattle.integrated.specs.Integrated.{fit_integrated}
use Rattle.account.specs.declared.IdentifyConfig.{IdentifyConfig}
use Rattle.account.specs.declared.IdentifyExtension.{IdentifyExtension}
use Rattle.account.specs.declared.IdentifyStatus.{IdentifyStatus}
use Rattle.account.specs.declared.IdentifyStatus.TheVariants as status
use Rattle.account.specs.Rules.{refusal}

-- one call of `step`
pub record Call : Type 0 where
  pub dt : Float
  pub rate : Float
  pub moment : Float
  -- 02, five: whether the other axis of a flight asks for the extension at this call
  pub asked : Bool

-- the call of a probe that flies alone
abbrev pub alone : (dt rate moment : Float) → Call
alone dt rate moment = record { dt = dt; rate = rate; moment = moment; asked = false }

-- what it answers: an offset, or the number of the rule that it broke
pub data Reply : Type 0 where
  offset : Float → Reply
  refused : ℕ → Reply

-- the rule's number, 0 for an offset
unfoldable pub number : Reply → ℕ
number (offset x) = 0
number (refused n) = n

-- where a probe stands, and the gain fits made for it
pub record Standing : Type 0 where
  pub status : IdentifyStatus
  pub fits : ℕ

pub record Probe : Type 0 where
  pub ticks : ℕ
  pub samples : Samples
  -- the end time, and the extension that is not used yet
  pub end : Float
  pub unused : Option IdentifyExtension
  pub sweep : SquareSweep
  pub standing : Standing

-- the elapsed time, while it runs
unfoldable pub clock : IdentifyStatus → Option Float
clock (status.Running e) = Some e
clock (status.Done m) = None
clock status.Unexcited = None
clock status.Saturated = None

-- the delay that is kept: "0 unless done"
unfoldable pub delay_of : IdentifyStatus → Delay
delay_of (status.Running e) = no_delay
delay_of (status.Done m) = m.delay
delay_of status.Unexcited = no_delay
delay_of status.Saturated = no_delay

-- a probe just made: "at edge 0", high or low
unfoldable pub fresh_at : Bool → IdentifyConfig → Probe
fresh_at high c = record {
  ticks = 0;
  samples = no_samples;
  end = c.duration_s;
  unused = c.noisy;
  sweep = started c.amplitude c.washout_tc_s high;
  standing = record { status = status.Running zero32; fits = 0 };
}

-- one that flies alone: "at edge 0, high"
abbrev pub fresh : IdentifyConfig → Probe
fresh c = fresh_at true c

-- "the model once done", or Unexcited
abbrev pub status_of : Option RateModel → IdentifyStatus
status_of (Some m) = status.Done m
status_of None = status.Unexcited

-- where a window's class leads, from its rates, moments and duration
unfoldable pub finished : Classified → List Float → List Float → Float → Standing
finished (Recorded m) rates moments duration = record { status = status.Done m; fits = 0 }
finished Integrated rates moments duration =
    let f = fit_integrated rates moments duration in
    record { status = status_of f.model; fits = f.gain_fits }
finished Unexcited rates moments duration = record { status = status.Unexcited; fits = 0 }
finished Saturated rates moments duration = record { status = status.Saturated; fits = 0 }

-- "The status carries elapsed seconds while it runs and the model once done": whether it runs, its elapsed time, and the window
unfoldable pub stands : Bool → Float → (rates moments : List Float) → List Bool → Float → Standing
stands true elapsed rates moments marks duration = record { status = status.Running elapsed; fits = 0 }
stands false elapsed rates moments marks duration = finished (classify rates moments marks duration) rates moments duration

abbrev pub stands_with : Bool → Float → Samples → Standing
stands_with running elapsed w = stands running elapsed w.rates w.moments w.marks w.duration

-- the extension that a class takes: "If the answer is 'integrated' and an unused extension exists"; where the other axis asks, any class takes it
unfoldable pub takes : Bool → Classified → Option IdentifyExtension → Option IdentifyExtension
takes true class unused = unused
takes false (Recorded m) unused = None
takes false Integrated unused = unused
takes false Unexcited unused = None
takes false Saturated unused = None

-- what the end of a tick decides
pub record Closing : Type 0 where
  pub end : Float
  pub unused : Option IdentifyExtension
  pub sweep : SquareSweep
  pub standing : Standing

module _ (now : Float) (w : Samples) where
  -- "take its duration and amplitude (for later ticks), and go on if elapsed is below it; otherwise finish"
  unfoldable pub extend : Option IdentifyExtension → Float → Option IdentifyExtension → SquareSweep → Closing
  extend None end unused s = record { end = end; unused = unused; sweep = s; standing = stands_with false now w }
  extend (Some x) end unused s = record {
    end = x.duration_s;
    unused = None;
    sweep = with_amplitude s x.amplitude;
    standing = stands_with (lt now x.duration_s) now w;
  }

  -- "Elapsed below duration_s: go on. Otherwise classify." Whether the other axis asks, and whether elapsed is below.
  unfoldable pub close : Bool → Bool → Float → Option IdentifyExtension → SquareSweep → Closing
  close asked true end unused s = record { end = end; unused = unused; sweep = s; standing = stands_with true now w }
  close asked false end unused s = extend (takes asked (classify w.rates w.moments w.marks w.duration) unused) end unused s

pub record Step : Type 0 where
  pub probe : Probe
  pub reply : Reply

-- a call that is accepted by a probe that runs, at elapsed e
unfoldable pub tick : Float → Probe → Call → Step
tick e p c =
    let now = add binary32 e c.dt in
    let s = next_sweep p.sweep c.dt now in
    let w = store p.samples c.dt c.rate c.moment s.offset in
    let z = close now w c.asked (lt now p.end) p.end p.unused s.sweep in
    record {
      reply = offset s.offset;
      probe = record {
        ticks = suc p.ticks;
        samples = w;
        end = z.end;
        unused = z.unused;
        sweep = z.sweep;
        standing = z.standing;
      };
    }

-- "6 to 8 leave the probe unchanged and count no tick"; "An ended probe answers 0.0 to a good dt, unchanged."
unfoldable pub answer : ℕ → Option Float → Probe → Call → Step
answer (suc n) e p c = record { probe = p; reply = refused (suc n) }
answer zero None p c = record { probe = p; reply = offset zero32 }
answer zero (Some e) p c = tick e p c

unfoldable pub step : Probe → Call → Step
step p c = let e = clock p.standing.status in answer (refusal e p.ticks c.dt) e p c

-- the step folded over a list of calls: the probe left, and the replies
abbrev pub after : Probe → List Call → Probe
after p calls = foldl (λ (q : Probe) (c : Call). (step q c).probe) p calls

unfoldable pub replies : Probe → List Call → List Reply
replies p [] = []
replies p (c ∷ cs) = (step p c).reply ∷ replies (step p c).probe cs
