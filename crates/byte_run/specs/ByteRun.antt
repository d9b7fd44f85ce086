-- The byte run: 01, "The byte run". "All fields 32-bit, big-endian."
use Rattle.std.specs.Prelude.{ℕ, ◌+◌, ◌≡◌, List, ◌++◌, map}
use Rattle.account.specs.declared.IdentifyConfig.{IdentifyConfig}
use Rattle.account.specs.Probe.{Call, alone, Reply, offset, refused, fresh, replies}
use Rattle.account.specs.Account.{opened, account}
use Rattle.account.specs.Claim.{account_delay}
use Rattle.wire.specs.Words.{float_at, word_bytes, word_of, Ran}
use Rattle.byte_config.specs.ByteConfig.{config_of}
use Rattle.report.specs.Report.{report_bytes, Tells, TellsFinite}
use Rattle.probe_report.specs.ProbeReport.{of_account}
use Rattle.batch.specs.declared.Sizes.{Sizes}
use Rattle.batch.specs.Calls as batch
use Rattle.batch.specs.Batch.{batch_run}

-- "Call: dt, rate, moment": the call at byte i
unfoldable pub call_at : List ℕ → ℕ → Call
call_at bytes i = alone (float_at bytes i) (float_at bytes (i + 4)) (float_at bytes (i + 8))

-- the first n calls, and all
abbrev pub calls_to : List ℕ → ℕ → List Call
calls_to bytes n = batch.calls_to 12 call_at bytes n

abbrev pub calls_of : List ℕ → List Call
calls_of bytes = batch.calls_of 12 call_at bytes

-- "one offset per call; a NaN offset is 7FC00000, a refused call writes 7FC00000 + its number and the run goes on"
unfoldable pub reply_word : Reply → ℕ
reply_word (offset x) = word_of x
reply_word (refused n) = 0x7fc0_0000 + n

-- "Output: report, then one offset per call"
unfoldable pub written : IdentifyConfig → List Call → List ℕ
written c calls = report_bytes (of_account (account (opened c) calls)) ++ word_bytes (map reply_word (replies (fresh c) calls))

-- "9: configuration not 24 bytes, calls not a multiple of 12, or output below 36 + 4 bytes a call"
abbrev pub sizes : Sizes
sizes = record { call = 12; answer = 4; report = 36 }

-- "it returns 0, or the number of 1 to 5 or 9"
unfoldable pub byte_run : (config calls output : List ℕ) → Ran
byte_run config calls output = batch_run sizes (λ c bytes. written c (calls_of bytes)) config calls output

-- a run that answers 0 tells the account's delay: d its whole ticks, the bit after d its half tick
abbrev pub TellsDelay : (config calls : List ℕ) → ℕ → List ℕ → Type 0
TellsDelay config calls result output = result ≡ 0 → Tells output (account_delay (account (opened (config_of config)) (calls_of calls)))

-- and its floats are finite where it tells of a probe that is done by the integrated fit
abbrev pub TellsModel : ℕ → List ℕ → Type 0
TellsModel result output = result ≡ 0 → TellsFinite output
