-- What two accounts account for has their report. It tells each account's delay, of an integrated fit finite numbers, and the sums of both.
use Prim.Native.Nat.{ℕ}
use mathlib.Core.Path.{◌≡◌, ap, sym, fun_ext, ◌∙◌}
use mathlib.Core.List.{List, ◌++◌, append_assoc}
use lib.Seq.{drop_at}
use Rattle.wire.specs.Words.{bytes_of}
use Rattle.account.specs.declared.IdentifyConfig.{IdentifyConfig}
use Rattle.account.specs.Claim.{account_delay}
use Rattle.report.specs.declared.Report.{Report}
use Rattle.report.specs.Report.{packed, report_bytes, Tells, TellsFinite}
use Rattle.report.proofs.Bytes.{length_report}
use Rattle.probe_report.specs.ProbeReport.{of_probe}
use Rattle.probe_report.proofs.Reported.{reported, told, finite_told}
use Rattle.two_axis.specs.Axes.{Axis, first, second, TwoCall}
use Rattle.two_axis.specs.Probes.{Probes, fresh_two, after_two}
use Rattle.two_axis.specs.Accounts.{Accounts, opened_two, account_two}
use Rattle.two_axis.specs.Claim.{TwoAccounted}
use Rattle.two_axis.proofs.Theorem.{two_accounted}
use Rattle.two_axis_report.specs.TwoReport.{sums_of, report_two, reports_of, report_at, TellsSums}
use Rattle.two_axis_report.proofs.Bytes.{sums_told}
use Rattle.two_axis_report.proofs.Fits.{ticks_fit, rows_fit}

pub reported_two : {c : IdentifyConfig} {calls : List TwoCall} {p : Probes} {a : Accounts} → TwoAccounted c calls p a → report_two (λ x. of_probe (p x)) ≡ report_two (reports_of a)
reported_two h = ap report_two (fun_ext (λ x. reported (h.each x)))

-- an axis's own report, and what stands behind it
abbrev behind_of : (Axis → Report) → List ℕ → Axis → List ℕ
behind_of r more first = report_bytes (r second) ++ (bytes_of 5 (packed 0 (sums_of r)) ++ more)
behind_of r more second = bytes_of 5 (packed 0 (sums_of r)) ++ more

own_report : (r : Axis → Report) (more : List ℕ) (x : Axis) → report_at x (report_two r ++ more) ≡ report_bytes (r x) ++ behind_of r more x
unfolding report_two
own_report r more first = simp append_assoc
own_report r more second = simp append_assoc (drop_at (report_bytes (r first)) (behind_of r more first) 36 (length_report (r first)))

-- the report of the accounts of a list of calls, whatever stands behind it
module _ (c : IdentifyConfig) (calls : List TwoCall) (more : List ℕ) where
  abbrev accounts : Accounts
  accounts = account_two (opened_two c) calls

  bytes_told : (x : Axis) → report_at x (report_two (reports_of accounts) ++ more) ≡ report_bytes (of_probe (after_two (fresh_two c) calls x)) ++ behind_of (reports_of accounts) more x
  bytes_told x = own_report (reports_of accounts) more x ∙ ap (λ (r : Report). report_bytes r ++ behind_of (reports_of accounts) more x) (sym (reported ((two_accounted c calls).each x)))

  pub delays_told : (x : Axis) → Tells (report_at x (report_two (reports_of accounts) ++ more)) (account_delay (accounts x))
  delays_told x = rw (bytes_told x) (told ((two_accounted c calls).each x) (behind_of (reports_of accounts) more x))

  pub models_told : (x : Axis) → TellsFinite (report_at x (report_two (reports_of accounts) ++ more))
  models_told x = rw (bytes_told x) (finite_told ((two_accounted c calls).each x) (behind_of (reports_of accounts) more x))

  -- the 26 and the 13 bits hold the sums of the two accounts, whole
  pub accounts_told : TellsSums (report_two (reports_of accounts) ++ more) (reports_of accounts)
  accounts_told = sums_told (reports_of accounts) more (ticks_fit c calls) (rows_fit c calls)
