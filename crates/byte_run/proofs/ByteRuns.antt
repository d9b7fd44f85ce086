-- The delay and the model that a byte run tells.
use Prim.Native.Nat.{ℕ}
use mathlib.Core.Path.{◌≡◌}
use mathlib.Core.Bool.{true}
use mathlib.Core.List.{List, append_assoc}
use Rattle.account.specs.declared.IdentifyConfig.{IdentifyConfig}
use Rattle.account.specs.Probe.{Call}
use Rattle.account.specs.Account.{opened, account}
use Rattle.account.specs.Claim.{account_delay}
use Rattle.account.proofs.Theorem.{accounted}
use Rattle.byte_config.specs.ByteConfig.{config_of}
use Rattle.report.specs.Report.{Tells, TellsFinite}
use Rattle.probe_report.proofs.Reported.{reported, told, finite_told}
use Rattle.batch.specs.Batch.{onto}
use Rattle.batch.proofs.Running.{writes}
use Rattle.byte_run.specs.ByteRun.{sizes, calls_of, written, byte_run, TellsDelay, TellsModel}

written_tells : (c : IdentifyConfig) (calls : List Call) (output : List ℕ)
    → Tells (onto (written c calls) output) (account_delay (account (opened c) calls)) × TellsFinite (onto (written c calls) output)
unfolding onto written
written_tells c calls output = let k = accounted true c calls in rw (append_assoc, ← reported k) (told k _, finite_told k _)

pub tells : (config calls output : List ℕ) {result : ℕ} {after : List ℕ} → result ≡ (byte_run config calls output).result → after ≡ (byte_run config calls output).output
    → TellsDelay config calls result after × TellsModel result after
unfolding byte_run
tells config calls output e f =
    let wrote = writes sizes (λ (c : IdentifyConfig) (bytes : List ℕ). written c (calls_of bytes)) config calls output e f in
    let told = written_tells (config_of config) (calls_of calls) output in
    (λ h. rw (wrote h) told.0, λ h. rw (wrote h) told.1)
