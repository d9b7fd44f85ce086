-- The delays, the models and the sums that a run tells.
use Prim.Native.Nat.{ℕ}
use mathlib.Core.Path.{◌≡◌, sym, subst}
use mathlib.Core.List.{List, ◌++◌, append_assoc}
use lib.ListN.{length, drop}
use Rattle.wire.specs.Words.{word_bytes}
use Rattle.account.specs.declared.IdentifyConfig.{IdentifyConfig}
use Rattle.account.specs.Claim.{account_delay}
use Rattle.report.specs.Report.{Tells, TellsFinite}
use Rattle.byte_config.specs.ByteConfig.{config_of}
use Rattle.batch.specs.Batch.{onto}
use Rattle.batch.proofs.Running.{writes}
use Rattle.two_axis.specs.Axes.{Axis, TwoCall}
use Rattle.two_axis.specs.Accounts.{opened_two, account_two}
use Rattle.two_axis_report.specs.TwoReport.{report_two, reports_of, report_at, TellsSums}
use Rattle.two_axis_report.proofs.Reported.{delays_told, models_told, accounts_told}
use Rattle.two_axis_run.specs.TwoAxisRun.{sizes, calls_of, words_of, written, two_axis_run}

-- what the report of a run tells
pub record Told (c : IdentifyConfig) (calls : List TwoCall) (output : List ℕ) : Type 0 where
  pub delays : (x : Axis) → Tells (report_at x output) (account_delay (account_two (opened_two c) calls x))
  pub models : (x : Axis) → TellsFinite (report_at x output)
  pub sums : TellsSums output (reports_of (account_two (opened_two c) calls))

written_tells : (c : IdentifyConfig) (calls : List TwoCall) (output : List ℕ) → Told c calls (onto (written c calls) output)
unfolding onto written
written_tells c calls output =
    let report = report_two (reports_of (account_two (opened_two c) calls)) in
    let words = word_bytes (words_of c calls) in
    let rest = drop (length (report ++ words)) output in
    let more = words ++ rest in
    subst (Told c calls) (sym (append_assoc report words rest)) (record { delays = delays_told c calls more; models = models_told c calls more; sums = accounts_told c calls more })

pub tells : (config calls output : List ℕ) {result : ℕ} {after : List ℕ} → result ≡ (two_axis_run config calls output).result → after ≡ (two_axis_run config calls output).output
    → result ≡ 0 → Told (config_of config) (calls_of calls) after
unfolding two_axis_run
tells config calls output e f h =
    let wrote = writes sizes (λ (c : IdentifyConfig) (bytes : List ℕ). written c (calls_of bytes)) config calls output e f h in
    rw wrote (written_tells (config_of config) (calls_of calls) output)
