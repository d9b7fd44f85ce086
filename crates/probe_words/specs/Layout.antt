-- A probe's scalars as its caller keeps them: eight words, and fourteen floats, of which the last six are those of its status, as a report has them.
-- What stands where, and what any content of the two is read as.
use Rattle.std.specs.Prelude.{ℕ, zero, suc, ◌≡◌, min, Bool, true, false, not, List, [], ◌∷◌, eqb, get_or, Float}
use Rattle.float.specs.Values.{zero32}
use Rattle.float.specs.Series.{at}
use Rattle.sweep.specs.declared.SquareSweep.{SquareSweep}
use Rattle.window.specs.declared.Window.{Window}
use Rattle.window.specs.Samples.{capacity}
use Rattle.window.specs.Arrays.{stored_of}
use Rattle.window.specs.Lent.{Borrowed}
use Rattle.delay.specs.declared.RateModel.{RateModel}
use Rattle.account.specs.declared.IdentifyExtension.{IdentifyExtension}
use Rattle.std.specs.Prelude.{Option, Some, None}
use Rattle.account.specs.declared.IdentifyStatus.{IdentifyStatus}
use Rattle.account.specs.declared.IdentifyStatus.TheVariants.{Running, Done, Unexcited, Saturated}
use Rattle.account.specs.Probe.{delay_of}
use Rattle.identify.specs.declared.IdentifyProbe.{IdentifyProbe}
use Rattle.probe_words.specs.declared.LentScalars.{LentScalars}
use Rattle.probe_words.specs.declared.Scalars as declared
use Rattle.report.specs.Report.{kind_of, floats_of}

pub record Scalars : Type 0 where
  -- kind, delay in half ticks, ticks, stored samples, gain fits, whether an extension is unused, edge, whether the wave is high
  pub words : List ℕ
  -- end time; the unused extension's amplitude and duration; the sweep's amplitude, washout_tc_s, next edge and washout; window duration;
  -- two rate weights, three moment weights, dt_s (elapsed if running)
  pub floats : List Float

abbrev pub scalars : List ℕ → List Float → Scalars
scalars words floats = record { words = words; floats = floats }

-- as a contract names them: when the call starts, and when it returns
abbrev pub found_in : Borrowed ℕ → Borrowed Float → Scalars
found_in words floats = scalars words.entry.now floats.entry.now

abbrev pub left_in : Borrowed ℕ → Borrowed Float → Scalars
left_in words floats = scalars words.exit.now floats.exit.now

-- what stands in the structs of the two arrays
abbrev pub read_in : declared.Scalars → Scalars
read_in a = scalars a.words.now a.floats.now

abbrev pub scalars_in : LentScalars → Scalars
scalars_in a = scalars a.words.now a.floats.now

-- what a call leaves in them is s, and they are the arrays that they were
pub record LeavesScalars (before after : LentScalars) (s : Scalars) : Type 0 where
  pub contents : scalars_in after ≡ s
  pub words : after.words.ghost_name ≡ before.words.ghost_name
  pub floats : after.floats.ghost_name ≡ before.floats.ghost_name

-- they are the arrays that they were, whatever a call left in them
abbrev pub SameScalars : (before after : LentScalars) → Type 0
SameScalars before after = LeavesScalars before after (scalars_in after)

-- ---- read
abbrev pub word : List ℕ → ℕ → ℕ
word l i = get_or l i 0

-- a flag of 0 is no extension
unfoldable pub noisy_by : ℕ → (amplitude duration : Float) → Option IdentifyExtension
noisy_by zero amplitude duration = None
noisy_by (suc flag) amplitude duration = Some (record { amplitude = amplitude; duration_s = duration })

abbrev pub model_by : ℕ → List Float → RateModel
model_by halves l = record {
  r1 = at l 8;
  r2 = at l 9;
  m0 = at l 10;
  m1 = at l 11;
  m2 = at l 12;
  delay = record { half_ticks = halves };
  dt_s = at l 13;
}

-- by its kind, its delay and the last six floats; any kind above 2 is saturated
unfoldable pub status_by : ℕ → ℕ → List Float → IdentifyStatus
status_by zero halves l = Running (at l 13)
status_by (suc zero) halves l = Done (model_by halves l)
status_by (suc (suc zero)) halves l = Unexcited
status_by (suc (suc (suc kind))) halves l = Saturated

-- the status that they hold
abbrev pub status_in : List ℕ → List Float → IdentifyStatus
status_in words floats = status_by (word words 0) (word words 1) floats

abbrev pub sweep_by : List ℕ → List Float → SquareSweep
sweep_by words floats = record {
  amplitude = at floats 3;
  washout_tc_s = at floats 4;
  next_edge_s = at floats 5;
  edge = word words 6;
  high = not (eqb (word words 7) 0);
  washout = at floats 6;
}

-- never more samples than there is room for
abbrev pub window_by : ℕ → Float → Window
window_by stored duration = record { len = min stored capacity; duration_s = duration }

unfoldable pub probe_in : Scalars → IdentifyProbe
probe_in s = record {
  duration_s = at s.floats 0;
  noisy = noisy_by (word s.words 5) (at s.floats 1) (at s.floats 2);
  status = status_in s.words s.floats;
  sweep = sweep_by s.words s.floats;
  window = window_by (word s.words 3) (at s.floats 7);
  ticks = word s.words 2;
  gain_fits = word s.words 4;
}

-- ---- written
abbrev pub flag_of : Bool → ℕ
flag_of true = 1
flag_of false = 0

-- no extension is written as zeros
unfoldable pub extension_flag : Option IdentifyExtension → ℕ
extension_flag None = 0
extension_flag (Some x) = 1

unfoldable pub extension_or_zeros : Option IdentifyExtension → IdentifyExtension
extension_or_zeros None = record { amplitude = zero32; duration_s = zero32 }
extension_or_zeros (Some x) = x

unfoldable pub words_of : IdentifyProbe → List ℕ
words_of p =
    kind_of p.status ∷
    (delay_of p.status).half_ticks ∷
    p.ticks ∷
    stored_of p.window ∷
    p.gain_fits ∷
    extension_flag p.noisy ∷
    p.sweep.edge ∷
    flag_of p.sweep.high ∷ []

unfoldable pub floats_in : IdentifyProbe → List Float
floats_in p =
    p.duration_s ∷
    (extension_or_zeros p.noisy).amplitude ∷
    (extension_or_zeros p.noisy).duration_s ∷
    p.sweep.amplitude ∷
    p.sweep.washout_tc_s ∷
    p.sweep.next_edge_s ∷
    p.sweep.washout ∷
    p.window.duration_s ∷ floats_of p.status

abbrev pub scalars_of : IdentifyProbe → Scalars
scalars_of p = scalars (words_of p) (floats_in p)
