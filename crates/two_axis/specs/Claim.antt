-- 02, five: one claim about every list of two-axis calls from fresh probes. p are the probes that the calls leave, and a the accounts of the same calls.
-- `proofs/Theorem.antt` proves it for every configuration and every list.
use Rattle.std.specs.Prelude.{◌≡◌, true, false, not, List, ◌++◌, map}
use Rattle.account.specs.declared.IdentifyConfig.{IdentifyConfig}
use Rattle.account.specs.declared.IdentifyExtension.{IdentifyExtension}
use Rattle.std.specs.Prelude.{Some, None}
use Rattle.account.specs.Probe.{clock, fresh_at, after, replies, number}
use Rattle.account.specs.Account.{turned}
use Rattle.account.specs.Claim.{Accounted}
use Rattle.two_axis.specs.Axes.{Axis, first, second, level, TwoCall, call_of, own_calls}
use Rattle.two_axis.specs.Probes.{Probes, fresh_two, replies_two}
use Rattle.two_axis.specs.Accounts.{Accounts, opened_two, wishes, next_two, calls_of, account_two}

pub record TwoAccounted (c : IdentifyConfig) (calls : List TwoCall) (p : Probes) (a : Accounts) : Type 0 where
  -- "For every list of these calls each axis keeps the account of a single probe": its calls have the bits that the accounts give
  pub each : (x : Axis) → Accounted (level x) c (calls_of (opened_two c) calls x) (p x) (a x)
  pub answers : (x : Axis) → replies_two (fresh_two c) calls x ≡ replies (fresh_at (level x) c) (calls_of (opened_two c) calls x)
  -- "A refused call is refused for both", with the same number
  pub refused : map number (replies_two (fresh_two c) calls first) ≡ map number (replies_two (fresh_two c) calls second)
  -- both have ended or neither; while they run, at the same elapsed time
  pub ended : clock (p first).standing.status ≡ clock (p second).standing.status
  pub ticks : (p first).ticks ≡ (p second).ticks
  pub end : (p first).end ≡ (p second).end
  pub unused : (p first).unused ≡ (p second).unused
  -- "The second axis has the level opposite to the first", and keeps it
  pub opposite : (p first).sweep.high ≡ not (p second).sweep.high
  -- "if either window is integrated when duration_s is reached, both take the extension, once": at the next call, which is accepted
  pub extended : (k : TwoCall) (x y : Axis) (e : IdentifyExtension)
      → turned (a x) (call_of k x false) ≡ 0 → wishes (a x) (call_of k x false) ≡ true → (a x).unused ≡ Some e
      → ((next_two a k y).end ≡ e.duration_s) × ((next_two a k y).unused ≡ None)
  -- without an extension an axis is the single probe that starts at its level
  pub alone : c.noisy ≡ None → (x : Axis)
      → (p x ≡ after (fresh_at (level x) c) (own_calls x calls)) × (replies_two (fresh_two c) calls x ≡ replies (fresh_at (level x) c) (own_calls x calls))
  -- the accounts of these calls and then others are those of the others, continued from these
  pub continued : (others : List TwoCall) (x : Axis) → account_two (opened_two c) (calls ++ others) x ≡ account_two a others x
