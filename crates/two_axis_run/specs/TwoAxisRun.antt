-- The byte run of two axes: 02, request five, in the form of 01's "The byte run". "All fields 32-bit, big-endian."
use Rattle.std.specs.Prelude.{ℕ, ◌≡◌, List, [], ◌∷◌, ◌++◌}
use Rattle.account.specs.declared.IdentifyConfig.{IdentifyConfig}
use Rattle.account.specs.Probe.{Reply}
use Rattle.account.specs.Claim.{account_delay}
use Rattle.wire.specs.Words.{word_bytes, Ran}
use Rattle.report.specs.Report.{Tells, TellsFinite}
use Rattle.byte_config.specs.ByteConfig.{config_of}
use Rattle.batch.specs.declared.Sizes.{Sizes}
use Rattle.batch.specs.Calls as batch
use Rattle.batch.specs.Batch.{batch_run}
use Rattle.byte_run.specs.ByteRun.{reply_word}
use Rattle.two_axis.specs.Axes.{Axis, first, second, TwoCall}
use Rattle.two_axis.specs.Probes.{fresh_two, replies_two}
use Rattle.two_axis.specs.Accounts.{Accounts, opened_two, account_two}
use Rattle.two_axis_report.specs.TwoReport.{report_two, reports_of, report_at, TellsSums}
use Rattle.two_axis_calls.specs.Calls.{call_at}

-- the first n calls, and all
abbrev pub calls_to : List ℕ → ℕ → List TwoCall
calls_to bytes n = batch.calls_to 20 call_at bytes n

abbrev pub calls_of : List ℕ → List TwoCall
calls_of bytes = batch.calls_of 20 call_at bytes

-- "and answers two offsets": two words a call, the first axis's and then the second's
unfoldable pub in_turn : List Reply → List Reply → List ℕ
in_turn [] ss = []
in_turn (r ∷ rs) [] = []
in_turn (r ∷ rs) (s ∷ ss) = reply_word r ∷ reply_word s ∷ in_turn rs ss

abbrev pub words_of : IdentifyConfig → List TwoCall → List ℕ
words_of c calls = in_turn (replies_two (fresh_two c) calls first) (replies_two (fresh_two c) calls second)

-- "The report is the two reports one after the other, then" their sums; and then the words
unfoldable pub written : IdentifyConfig → List TwoCall → List ℕ
written c calls = report_two (reports_of (account_two (opened_two c) calls)) ++ word_bytes (words_of c calls)

-- rule 9 for its own sizes: configuration not 24 bytes, calls not a multiple of 20, or output below 77 + 8 bytes a call
abbrev pub sizes : Sizes
sizes = record { call = 20; answer = 8; report = 77 }

-- "it returns 0, or the number of 1 to 5 or 9"
unfoldable pub two_axis_run : (config calls output : List ℕ) → Ran
two_axis_run config calls output = batch_run sizes (λ c bytes. written c (calls_of bytes)) config calls output

-- the accounts of a run
abbrev pub accounts_of : (config calls : List ℕ) → Accounts
accounts_of config calls = account_two (opened_two (config_of config)) (calls_of calls)

-- a run that answers 0 tells each account's delay, in the first byte of the axis's own report
abbrev pub TellsDelays : (config calls : List ℕ) → ℕ → List ℕ → Type 0
TellsDelays config calls result output = result ≡ 0 → (x : Axis) → Tells (report_at x output) (account_delay (accounts_of config calls x))

-- its floats are finite where an axis's report tells of a probe that is done by the integrated fit
abbrev pub TellsModels : ℕ → List ℕ → Type 0
TellsModels result output = result ≡ 0 → (x : Axis) → TellsFinite (report_at x output)

-- and the 26 and the 13 bits hold the sums of the two accounts, whole
abbrev pub TellsSumsOf : (config calls : List ℕ) → ℕ → List ℕ → Type 0
TellsSumsOf config calls result output = result ≡ 0 → TellsSums output (reports_of (accounts_of config calls))
