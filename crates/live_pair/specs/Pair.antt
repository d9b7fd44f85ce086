-- A pair of probes that their caller keeps and steps: what each call answers, and what it leaves of all that it was lent. An axis's part is what a caller keeps of a single probe.
use Rattle.std.specs.Prelude.{ℕ, zero, suc, ◌≡◌, Bool, true, false, ◌&&◌, cond, List, Float}
use Rattle.std.specs.Borrow.{Bor}
use denote.Triple.Both.{Both}
use Rattle.std.specs.Prelude.{Option, Some, None, Result, Ok, Err}
use Rattle.float.specs.Values.{zero32}
use Rattle.window.specs.Lent.{Borrowed}
use Rattle.account.specs.declared.IdentifyConfig.{IdentifyConfig}
use Rattle.account.specs.Rules.{broken, refusal}
use Rattle.account.specs.Probe.{number, clock}
use Rattle.identify.specs.declared.IdentifyProbe.{IdentifyProbe}
use Rattle.probe_words.specs.Layout.{Scalars, scalars, scalars_in, found_in, left_in, probe_in, scalars_of}
use Rattle.probe_words.specs.declared.LentScalars.{LentScalars}
use Rattle.live_probe.specs.Live.{Written, over, Live, live, live_probe, kept_in, SameLent, Opening, opening, Flight, flight, readied}
use Rattle.rules.specs.declared.Rule.{Rule}
use Rattle.rules.specs.Numbers.{numbered}
use Rattle.live_pair.specs.declared.LentPair.{LentPair}
use Rattle.two_axis.specs.Axes.{Axis, first, second, axes, TwoCall}
use Rattle.two_axis_probe.specs.Stepped.{Structs, Lents, probes_of, fresh_two_axis, probes_left, lents_left, two_stepped_by, reply_two}

-- all that the caller keeps of both axes
abbrev pub Pair : Type 0
Pair = Axis → Live

abbrev pub pair_probes : Pair → Structs
pair_probes k x = live_probe (k x)

abbrev pub pair_lents : Pair → Lents
pair_lents k x = (k x).lent

-- ---- as a contract names them, when the call starts and when it returns
-- the scalars of both axes
abbrev pub scalars_over : Borrowed ℕ → Borrowed Float → Borrowed ℕ → Borrowed Float → Both (Axis → Scalars) (Axis → Scalars)
scalars_over words1 floats1 words2 floats2 = record {
  entry = axes (found_in words1 floats1) (found_in words2 floats2);
  exit = axes (left_in words1 floats1) (left_in words2 floats2);
}

-- the same, from the structs that lend them, and all that is kept
abbrev pub scalars_lent : Written LentScalars → Written LentScalars → Both (Axis → Scalars) (Axis → Scalars)
scalars_lent lent1 lent2 = over (axes (scalars_in lent1.entry.now) (scalars_in lent2.entry.now)) (axes (scalars_in lent1.exit.now) (scalars_in lent2.exit.now))

abbrev pub pair_in : LentPair → Pair
pair_in a = axes (kept_in a.first) (kept_in a.second)

-- the arrays are those that they were, whatever a call left in them
pub record SamePair (before after : LentPair) : Type 0 where
  pub first : SameLent before.first after.first
  pub second : SameLent before.second after.second

-- where the offsets go
abbrev pub offsets_over : (offset1 offset2 : Written Float) → Both (Axis → Float) (Axis → Float)
offsets_over offset1 offset2 = record { entry = axes offset1.entry.now offset2.entry.now; exit = axes offset1.exit.now offset2.exit.now }

-- what is only read
abbrev pub Read : Type 0 → Type 0
Read A = Both (Bor (List A)) (Bor (List A))

abbrev pub scalars_read : Read ℕ → Read Float → Read ℕ → Read Float → Axis → Scalars
scalars_read words1 floats1 words2 floats2 = axes (scalars words1.entry.now floats1.entry.now) (scalars words2.entry.now floats2.entry.now)

abbrev pub both_read : {A : Type 0} → Read A → Read A → Axis → List A
both_read lent1 lent2 = axes lent1.entry.now lent2.entry.now

-- ---- open
abbrev pub PairOpening : Type 0
PairOpening = Opening (Axis → Scalars)

abbrev pub pair_opening : ℕ → (Axis → Scalars) → PairOpening
pair_opening n s = opening n s

-- 1 to 5 leave the scalars as they were
unfoldable pub pair_open_by : ℕ → IdentifyConfig → (Axis → Scalars) → PairOpening
pair_open_by zero c s = pair_opening 0 (λ x. scalars_of (probes_of (fresh_two_axis c) x))
pair_open_by (suc n) c s = pair_opening (suc n) s

-- 9 precedes all: no option has a meaning
unfoldable pub pair_open : ℕ → IdentifyConfig → (Axis → Scalars) → PairOpening
pair_open zero c s = pair_open_by (broken c) c s
pair_open (suc options) c s = pair_opening 9 s

-- an opening in these scalars answers n
abbrev pub PairOpened : ℕ → IdentifyConfig → Both (Axis → Scalars) (Axis → Scalars) → ℕ → Type 0
PairOpened options c s n = pair_opening n s.exit ≡ pair_open options c s.entry

-- ---- step
-- a call answers a number, and leaves the offsets where they go and all that the caller keeps
abbrev pub PairFlight : Type 0
PairFlight = Flight (Axis → Float) Pair

abbrev pub pair_flight : ℕ → (Axis → Float) → Pair → PairFlight
pair_flight n offset k = flight n offset k

-- an axis's scalars, which are written where the pair moves on, and its offset's place: a refused call, and one after the end, leave the scalars; the offset is then left, or 0
unfoldable pub scalars_after_two : Result (Option (Float × Float)) ℕ → Structs → Axis → Scalars → Scalars
scalars_after_two (Ok (Some x)) next a s = scalars_of (next a)
scalars_after_two (Ok None) next a s = s
scalars_after_two (Err n) next a s = s

unfoldable pub offset_after_two : Result (Option (Float × Float)) ℕ → Axis → Float → Float
offset_after_two (Ok (Some x)) a found = axes x.0 x.1 a
offset_after_two (Ok None) a found = zero32
offset_after_two (Err n) a found = found

-- the step of the probes that stand in the scalars and the arrays
unfoldable pub pair_step : Pair → TwoCall → (Axis → Float) → PairFlight
pair_step k c found =
    let a = two_stepped_by (pair_probes k) (pair_lents k) c in
    pair_flight (number (reply_two a.answer first)) (λ x. offset_after_two a.answer x (found x)) (λ x. live (scalars_after_two a.answer (probes_left a) x (k x).scalars) (lents_left a x))

-- a call of what is kept here, with its offsets here, answers n
abbrev pub PairStepped : Both Pair Pair → TwoCall → Both (Axis → Float) (Axis → Float) → ℕ → Type 0
PairStepped k c offset n = pair_flight n offset.exit k.exit ≡ pair_step k.entry c offset.entry

-- the offsets' places after an answer, which a refused call leaves as they were
unfoldable pub offsets_or : Result (Float × Float) Rule → (Axis → Float) → Axis → Float
offsets_or (Ok x) found = axes x.0 x.1
offsets_or (Err r) found = found

-- a call of what is kept answers r and leaves `next`, whatever stands where the offsets go
abbrev pub PairAnswers : Pair → TwoCall → Result (Float × Float) Rule → Pair → Type 0
PairAnswers k c r next = (found : Axis → Float) → PairStepped (over k next) c (over found (offsets_or r found)) (numbered r)

-- ---- marks
-- whether an axis runs and no rule turns its call back, by the number and the elapsed time
unfoldable pub accepted_by : ℕ → Option Float → Bool
accepted_by (suc n) time = false
accepted_by zero None = false
accepted_by zero (Some elapsed) = true

abbrev pub accepted : IdentifyProbe → Float → Bool
accepted p dt = let time = clock p.status in accepted_by (refusal time p.ticks dt) time

-- the bytes of an axis's marks before a call: settled where both axes accept it and this one reads its marks
unfoldable pub pair_readied : (Axis → Scalars) → Axis → Float → List ℕ → List ℕ
pair_readied s x dt bytes = cond (accepted (probe_in (s first)) dt && accepted (probe_in (s second)) dt) (readied (probe_in (s x)) dt bytes) bytes
