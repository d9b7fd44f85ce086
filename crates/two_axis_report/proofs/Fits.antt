-- The sums of two accounts fit their bits: an account has at most 16,777,216 ticks, since rule 8 turns back any more, and at most 2,048 rows, each one of its entries.
use Prim.Native.Nat.{ℕ, zero, suc, ◌+◌, ◌^◌, ◌≤◌, ◌<◌}
use mathlib.Core.Path.{◌≡◌, refl}
use mathlib.Core.Bool.{Bool, true, false, cond}
use mathlib.Core.List.{List, [], ◌∷◌}
use native.Mathlib.Omega.{arith}
use lib.Dec.{lit≤}
use lib.ListN.{length}
use Rattle.window.specs.Runs.{rows_of}
use Rattle.account.specs.declared.IdentifyConfig.{IdentifyConfig}
use Rattle.account.specs.Rules.{refusal}
use Rattle.account.specs.Probe.{Call}
use Rattle.account.specs.Account.{Account, opened, account, counted, accept, continue, next, time, turned, runs_of}
use Rattle.account.proofs.Counts.{full}
use Rattle.identify.proofs.Stepping.{few_ticks}
use Rattle.probe_report.specs.ProbeReport.{of_account}
use Rattle.two_axis.specs.Axes.{Axis, first, second, TwoCall}
use Rattle.two_axis.specs.Accounts.{opened_two, calls_of, account_two}
use Rattle.two_axis.proofs.Theorem.{two_accounted}
use Rattle.two_axis_report.specs.TwoReport.{reports_of}

few : (n : ℕ) (r : Bool) (a : Account) (c : Call) → refusal (time r a) a.ticks c.dt ≡ n → a.ticks ≤ 16_777_216 → (continue n r a c).ticks ≤ 16_777_216
unfolding continue accept counted time
few (suc n) r a c e h = h
few zero false a c e h = h
few zero true a c e h = omega (arith, few_ticks a.elapsed a.ticks c.dt e)

ticks : (cs : List Call) (a : Account) → a.ticks ≤ 16_777_216 → (account a cs).ticks ≤ 16_777_216
unfolding next turned
ticks [] a h = h
ticks (c ∷ cs) a h = ticks cs (next a c) (few (turned a c) a.running a c refl h)

once : (r : Bool) (n : ℕ) → cond r 0 n ≤ n
once true n = omega arith
once false n = omega arith

module _ (c : IdentifyConfig) (calls : List TwoCall) where
  few_of : (x : Axis) → (reports_of (account_two (opened_two c) calls) x).ticks ≤ 16_777_216
  unfolding of_account opened
  few_of x = ticks (calls_of (opened_two c) calls x) (opened c) (lit≤ tt)

  rows_within : (x : Axis) → (reports_of (account_two (opened_two c) calls) x).rows ≤ 2048
  unfolding of_account opened
  rows_within x =
      let a = account_two (opened_two c) calls x in
      omega (arith, once a.running (length (rows_of (runs_of a))), ((two_accounted c calls).each x).whole, full (calls_of (opened_two c) calls x) (opened c) refl)

  pub ticks_fit : (reports_of (account_two (opened_two c) calls) first).ticks + (reports_of (account_two (opened_two c) calls) second).ticks < 2 ^ 26
  ticks_fit = omega (arith, few_of first, few_of second)

  pub rows_fit : (reports_of (account_two (opened_two c) calls) first).rows + (reports_of (account_two (opened_two c) calls) second).rows < 2 ^ 13
  rows_fit = omega (arith, rows_within first, rows_within second)
