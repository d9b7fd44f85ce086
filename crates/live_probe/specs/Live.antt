-- A probe that its caller keeps and steps: what each call answers, and what it leaves of all that it was lent.
use Rattle.std.specs.Prelude.{ℕ, zero, suc, ◌≡◌, Bool, false, not, cond, List, Float}
use Rattle.std.specs.Prelude.{Option, Some, None, Result, Ok, Err}
use Rattle.std.specs.Borrow.{MutBor}
use denote.Triple.Both.{Both}
use Rattle.std.specs.Float.{binary32}
use Rattle.std.specs.Float.Ieee.{add, lt}
use Rattle.float.specs.Values.{zero32}
use Rattle.window.specs.Lent.{Lent, arrays_in}
use Rattle.account.specs.declared.IdentifyConfig.{IdentifyConfig}
use Rattle.account.specs.Rules.{broken, refusal}
use Rattle.account.specs.Probe.{Call, number, clock}
use Rattle.identify.specs.declared.IdentifyProbe.{IdentifyProbe}
use Rattle.identify.specs.Seen.{SameArrays, fresh_probe, stepped_by, reply_of}
use Rattle.probe_words.specs.Layout.{Scalars, scalars_in, SameScalars, noisy_by, probe_in, scalars_of}
use Rattle.marks.specs.Marks.{settled}
use Rattle.rules.specs.declared.Rule.{Rule}
use Rattle.rules.specs.Numbers.{numbered}
use Rattle.live_probe.specs.declared.LentProbe.{LentProbe}

-- all that the caller keeps of a probe
pub record Live : Type 0 where
  pub scalars : Scalars
  pub lent : Lent

abbrev pub live : Scalars → Lent → Live
live s l = record { scalars = s; lent = l }

abbrev pub live_probe : Live → IdentifyProbe
live_probe k = probe_in k.scalars

-- a value as a contract names it, that a call may write: when the call starts, and when it returns
abbrev pub Written : Type 0 → Type 0
Written A = Both (MutBor A) (MutBor A)

-- a value when a call starts and when it returns
abbrev pub over : {A : Type 0} → A → A → Both A A
over a b = record { entry = a; exit = b }

-- all that is kept, in the struct that lends it
abbrev pub kept_in : LentProbe → Live
kept_in a = live (scalars_in a.scalars) (arrays_in a.arrays)

-- the arrays are those that they were, whatever a call left in them
pub record SameLent (before after : LentProbe) : Type 0 where
  pub scalars : SameScalars before.scalars after.scalars
  pub arrays : SameArrays before.arrays after.arrays

-- ---- open
abbrev pub config_by : (amplitude duration washout : Float) → ℕ → (extension_amplitude extension_duration : Float) → IdentifyConfig
config_by amplitude duration washout flag extension_amplitude extension_duration = record {
  amplitude = amplitude;
  duration_s = duration;
  washout_tc_s = washout;
  noisy = noisy_by flag extension_amplitude extension_duration;
}

-- what an opening answers, and the scalars as it leaves them, of a probe or of a pair
pub record Opening (S : Type 0) : Type 0 where
  pub result : ℕ
  pub scalars : S

abbrev pub opening : {S : Type 0} → ℕ → S → Opening S
opening n s = record { result = n; scalars = s }

-- 1 to 5 leave the scalars as they were
unfoldable pub open_by : ℕ → IdentifyConfig → Scalars → Opening Scalars
open_by zero c s = opening 0 (scalars_of (fresh_probe c))
open_by (suc n) c s = opening (suc n) s

-- 9 precedes all: no option has a meaning
unfoldable pub live_open : ℕ → IdentifyConfig → Scalars → Opening Scalars
live_open zero c s = open_by (broken c) c s
live_open (suc options) c s = opening 9 s

-- ---- step
-- what a call answers, the offset where it goes, and all that the caller keeps as the call leaves it, of a probe or of a pair
pub record Flight (O K : Type 0) : Type 0 where
  pub result : ℕ
  pub offset : O
  pub left : K

abbrev pub flight : {O K : Type 0} → ℕ → O → K → Flight O K
flight n x k = record { result = n; offset = x; left = k }

-- the scalars, which are written where the probe moves on, and the offset's place: "6 to 8 leave the probe unchanged"; "An ended probe answers 0.0 to a good dt, unchanged."
unfoldable pub scalars_after : Result (Option Float) ℕ → IdentifyProbe → Scalars → Scalars
scalars_after (Ok (Some x)) next s = scalars_of next
scalars_after (Ok None) next s = s
scalars_after (Err n) next s = s

unfoldable pub offset_after : Result (Option Float) ℕ → Float → Float
offset_after (Ok (Some x)) found = x
offset_after (Ok None) found = zero32
offset_after (Err n) found = found

-- the step of the probe that stands in the scalars and the arrays
unfoldable pub live_step : Live → Call → Float → Flight Float Live
live_step k c found =
    let a = stepped_by (live_probe k) k.lent c in
    flight (number (reply_of a.answer)) (offset_after a.answer found) (live (scalars_after a.answer a.probe k.scalars) a.lent)

-- the place of what is answered, which a refusal leaves as it was
unfoldable pub value_or : {A : Type 0} → Result A Rule → A → A
value_or (Ok x) found = x
value_or (Err r) found = found

-- a call of what is kept answers r and leaves `next`, whatever stands where the offset goes
abbrev pub Stepped : Live → Call → Result Float Rule → Live → Type 0
Stepped k c r next = (found : Float) → flight (numbered r) (value_or r found) next ≡ live_step k c found

-- ---- marks
-- whether a call reads the marks, by the number that turns it back and the elapsed time of a probe that runs: it is not "Elapsed below duration_s: go on"
unfoldable pub reads_marks : ℕ → Option Float → (end dt : Float) → Bool
reads_marks (suc n) time end dt = false
reads_marks zero None end dt = false
reads_marks zero (Some elapsed) end dt = not (lt (add binary32 elapsed dt) end)

abbrev pub reads_in : IdentifyProbe → Float → Bool
reads_in p dt = let time = clock p.status in reads_marks (refusal time p.ticks dt) time p.duration_s dt

-- before such a call the marks are settled
unfoldable pub readied : IdentifyProbe → Float → List ℕ → List ℕ
readied p dt bytes = cond (reads_in p dt) (settled bytes) bytes
