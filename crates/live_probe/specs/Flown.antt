-- A caller that opens a probe and steps it: what it then keeps is the account's, and what it was answered is the byte run's.
use Rattle.std.specs.Prelude.{ℕ, zero, suc, ◌≡◌, true, Result, List, [], ◌∷◌, ◌++◌, map, Float}
use Rattle.window.specs.Lent.{Lent, Whole, lent}
use Rattle.wire.specs.Words.{word_bytes, written_within}
use Rattle.account.specs.declared.IdentifyConfig.{IdentifyConfig}
use Rattle.account.specs.Probe.{Call, Reply, offset, refused, fresh, replies}
use Rattle.account.specs.Account.{opened, account}
use Rattle.identify.specs.Seen.{seen}
use Rattle.identify.specs.Made.{Holds}
use Rattle.identify.specs.declared.IdentifyProbe.{IdentifyProbe}
use Rattle.rules.specs.declared.Rule.{Rule}
use Rattle.rules.specs.Numbers.{numbered}
use Rattle.report.specs.Report.{report_bytes}
use Rattle.probe_report.specs.ProbeReport.{of_probe, of_account}
use Rattle.byte_run.specs.ByteRun.{reply_word, written}
use Rattle.probe_words.specs.Layout.{Scalars, probe_in}
use Rattle.marks.specs.Marks.{marks_by, mark_bytes}
use Rattle.live_probe.specs.Live.{Live, live, live_probe, opening, live_open, flight, live_step, value_or}

-- an answer as the definitions say it
unfoldable pub reply_by : ℕ → Float → Reply
reply_by zero x = offset x
reply_by (suc n) x = refused (suc n)

-- Opened from c and stepped with these calls, in this order, with nothing written in between: each by what its contract ensures; and what the calls were answered.
pub data Flown (c : IdentifyConfig) : List Call → List Reply → Live → Type 0 where
  -- the scalars and the arrays hold anything
  by_open : (s : Scalars) {t : Scalars} {l : Lent} → opening 0 t ≡ live_open 0 c s → Whole l → Flown c [] [] (live t l)
  by_step : {calls : List Call} {answers : List Reply} {k next : Live} {n : ℕ} {x : Float} (found : Float) (y : Call) → Flown c calls answers k
      → flight n x next ≡ live_step k y found
      → Flown c (calls ++ (y ∷ [])) (answers ++ (reply_by n x ∷ [])) next

-- demand 3 of what the caller keeps, and the byte run of the same calls
pub record Flies (c : IdentifyConfig) (calls : List Call) (answers : List Reply) (k : Live) : Type 0 where
  pub holds : Holds true c calls (live_probe k) k.lent (account (opened c) calls)
  pub answered : answers ≡ replies (fresh c) calls
  -- it writes the report of this probe, and then the words of these answers
  pub run : written c calls ≡ report_bytes (of_probe (seen (live_probe k) k.lent)) ++ word_bytes (map reply_word answers)

-- ---- as the contracts of the calls ensure it
-- an opening of c that answered n and left the scalars t, whatever the arrays hold
abbrev pub OpensFlight : IdentifyConfig → ℕ → Scalars → Type 0
OpensFlight c n t = n ≡ 0 → (l : Lent) → Whole l → Flies c [] [] (live t l)

-- a call y of what was flown, which answered n and x and left `next`
abbrev pub FliesOn : Live → Call → ℕ → Float → Live → Type 0
FliesOn k y n x next = (c : IdentifyConfig) (calls : List Call) (answers : List Reply) → Flown c calls answers k → Flies c (calls ++ (y ∷ [])) (answers ++ (reply_by n x ∷ [])) next

-- as a call says it that answers r, whatever stands where the offset goes
abbrev pub StepsFlight : Live → Call → Result Float Rule → Live → Type 0
StepsFlight k y r next = (found : Float) → FliesOn k y (numbered r) (value_or r found) next

-- the report of any probe and arrays, over the bytes that stood there; moments and offsets have no say
abbrev pub WritesReportOf : IdentifyProbe → List Float → (marks output left : List ℕ) → Type 0
WritesReportOf p rates marks output left = (moments offsets : List Float) → left ≡ written_within 0 (report_bytes (of_probe (seen p (lent rates moments offsets (marks_by marks))))) output

-- of the probe in any scalars
abbrev pub WritesReport : Scalars → List Float → (marks output left : List ℕ) → Type 0
WritesReport s rates marks output left = WritesReportOf (probe_in s) rates marks output left

-- and of what was flown: the one that the account asks for
abbrev pub ReportsFlight : Scalars → List Float → (marks output left : List ℕ) → Type 0
ReportsFlight s rates marks output left =
    (c : IdentifyConfig) (calls : List Call) (answers : List Reply) (l : Lent) → Flown c calls answers (live s l) → rates ≡ l.rates → marks ≡ mark_bytes l.marks
    → left ≡ written_within 0 (report_bytes (of_account (account (opened c) calls))) output

-- of any scalars that hold the probe
abbrev pub ReportsProbe : IdentifyProbe → List Float → (marks output left : List ℕ) → Type 0
ReportsProbe p rates marks output left = (s : Scalars) → probe_in s ≡ p → ReportsFlight s rates marks output left
