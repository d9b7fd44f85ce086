-- A caller that opens a pair and steps it: what it then keeps of each axis is that axis's account, and what it was answered is the two-axis run's.
use Rattle.std.specs.Prelude.{ℕ, ◌≡◌, Result, List, [], ◌∷◌, ◌++◌, Float}
use denote.Triple.Both.{Both}
use Rattle.window.specs.Lent.{Lent, Whole, lent}
use Rattle.wire.specs.Words.{word_bytes, written_within}
use Rattle.delay.specs.HalfTicks.{whole_ticks, half_tick}
use Rattle.account.specs.declared.IdentifyConfig.{IdentifyConfig}
use Rattle.account.specs.Probe.{Reply}
use Rattle.account.specs.Claim.{account_delay}
use Rattle.identify.specs.Seen.{seen}
use Rattle.probe_report.specs.ProbeReport.{of_probe, of_account}
use Rattle.probe_words.specs.Layout.{Scalars, word, probe_in}
use Rattle.marks.specs.Marks.{marks_by, mark_bytes}
use Rattle.rules.specs.declared.Rule.{Rule}
use Rattle.rules.specs.Numbers.{numbered}
use Rattle.live_probe.specs.Live.{over, live}
use Rattle.live_probe.specs.Flown.{reply_by}
use Rattle.two_axis.specs.Axes.{Axis, first, second, TwoCall}
use Rattle.two_axis.specs.Probes.{fresh_two, replies_two}
use Rattle.two_axis.specs.Accounts.{opened_two, account_two}
use Rattle.two_axis_probe.specs.Stepped.{Structs, seen_two}
use Rattle.two_axis_probe.specs.Held.{HoldsTwo}
use Rattle.two_axis_report.specs.TwoReport.{report_two}
use Rattle.two_axis_run.specs.TwoAxisRun.{in_turn, written}
use Rattle.live_pair.specs.Pair.{Pair, pair_probes, pair_lents, pair_opening, pair_open, pair_flight, pair_step, offsets_or}

-- Opened from c and stepped with these calls, in this order, with nothing written in between: each by what its contract ensures; and what the calls answered for each axis.
pub data PairFlown (c : IdentifyConfig) : List TwoCall → (Axis → List Reply) → Pair → Type 0 where
  -- the scalars and the arrays hold anything
  by_open : (s : Axis → Scalars) {t : Axis → Scalars} {l : Axis → Lent} → pair_opening 0 t ≡ pair_open 0 c s → ((x : Axis) → Whole (l x))
      → PairFlown c [] (λ x. []) (λ x. live (t x) (l x))
  by_step : {calls : List TwoCall} {answers : Axis → List Reply} {k next : Pair} {n : ℕ} {offset : Axis → Float} (found : Axis → Float) (y : TwoCall) → PairFlown c calls answers k
      → pair_flight n offset next ≡ pair_step k y found
      → PairFlown c (calls ++ (y ∷ [])) (λ x. answers x ++ (reply_by n (offset x) ∷ [])) next

-- the claim of both axes, of what the caller keeps, and what it was answered
pub record PairFlies (c : IdentifyConfig) (calls : List TwoCall) (answers : Axis → List Reply) (k : Pair) : Type 0 where
  pub holds : HoldsTwo c calls (pair_probes k) (pair_lents k) (account_two (opened_two c) calls)
  pub answered : (x : Axis) → answers x ≡ replies_two (fresh_two c) calls x
  -- the two-axis run of the same calls writes the report of these probes, and then the words of these answers
  pub run : written c calls ≡ report_two (λ x. of_probe (seen_two (pair_probes k) (pair_lents k) x)) ++ word_bytes (in_turn (answers first) (answers second))

-- ---- as the contracts of the calls ensure it
-- an opening of c in these scalars that answered n, whatever the arrays hold
abbrev pub OpensPair : IdentifyConfig → Both (Axis → Scalars) (Axis → Scalars) → ℕ → Type 0
OpensPair c s n = n ≡ 0 → (l : Axis → Lent) → ((x : Axis) → Whole (l x)) → PairFlies c [] (λ x. []) (λ x. live (s.exit x) (l x))

-- a call y of what was flown and is kept here, which answered n and these offsets
abbrev pub PairFliesOn : Both Pair Pair → TwoCall → Both (Axis → Float) (Axis → Float) → ℕ → Type 0
PairFliesOn k y offset n =
    (c : IdentifyConfig) (calls : List TwoCall) (answers : Axis → List Reply) → PairFlown c calls answers k.entry
    → PairFlies c (calls ++ (y ∷ [])) (λ x. answers x ++ (reply_by n (offset.exit x) ∷ [])) k.exit

-- as a call says it that answers r, whatever stood where the offsets go
abbrev pub PairFliesAnswering : Pair → TwoCall → Result (Float × Float) Rule → Pair → Type 0
PairFliesAnswering k y r next = (found : Axis → Float) → PairFliesOn (over k next) y (over found (offsets_or r found)) (numbered r)

-- the report of any probes and arrays, over the bytes that stood there; moments and offsets have no say
abbrev pub WritesPairReportOf : Structs → (Axis → List Float) → (Axis → List ℕ) → (output left : List ℕ) → Type 0
WritesPairReportOf p rates marks output left =
    (moments offsets : Axis → List Float) → left ≡ written_within 0 (report_two (λ x. of_probe (seen (p x) (lent (rates x) (moments x) (offsets x) (marks_by (marks x)))))) output

-- of the probes in any scalars
abbrev pub WritesPairReport : (Axis → Scalars) → (Axis → List Float) → (Axis → List ℕ) → (output left : List ℕ) → Type 0
WritesPairReport s rates marks output left = WritesPairReportOf (λ x. probe_in (s x)) rates marks output left

-- and of what was flown: the one that the accounts ask for
abbrev pub ReportsPair : (Axis → Scalars) → (Axis → List Float) → (Axis → List ℕ) → (output left : List ℕ) → Type 0
ReportsPair s rates marks output left =
    (c : IdentifyConfig) (calls : List TwoCall) (answers : Axis → List Reply) (l : Axis → Lent) → PairFlown c calls answers (λ x. live (s x) (l x))
    → ((x : Axis) → rates x ≡ (l x).rates) → ((x : Axis) → marks x ≡ mark_bytes (l x).marks)
    → left ≡ written_within 0 (report_two (λ x. of_account (account_two (opened_two c) calls x))) output

-- of any scalars that hold the probes
abbrev pub ReportsPairOf : Structs → (Axis → List Float) → (Axis → List ℕ) → (output left : List ℕ) → Type 0
ReportsPairOf p rates marks output left = (s : Axis → Scalars) → ((x : Axis) → probe_in (s x) ≡ p x) → ReportsPair s rates marks output left

-- the three numbers of a delay in the status of an axis of what was flown: those of the account's delay
abbrev pub TellsAxisDelay : Scalars → List ℕ → Type 0
TellsAxisDelay s numbers =
    (c : IdentifyConfig) (calls : List TwoCall) (answers : Axis → List Reply) (k : Pair) (x : Axis) → PairFlown c calls answers k → (k x).scalars ≡ s
    → let delay = account_delay (account_two (opened_two c) calls x) in
    (word numbers 1 ≡ delay.half_ticks) × (word numbers 2 ≡ whole_ticks delay) × (word numbers 3 ≡ half_tick delay)
