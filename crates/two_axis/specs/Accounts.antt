-- The accounts of two axes: 02, five, "each axis keeps the account of a single probe". They are fed the configuration and the calls, and nothing from the probes.
use Rattle.std.specs.Prelude.{Bool, not, ◌&&◌, List, [], ◌∷◌}
use Rattle.std.specs.Float.Ieee.{lt}
use Rattle.account.specs.declared.IdentifyConfig.{IdentifyConfig}
use Rattle.account.specs.Probe.{Call}
use Rattle.account.specs.Account.{Account, opened, counted, is_integrated, account_class, next, account}
use Rattle.two_axis.specs.Axes.{Axis, TwoCall, tied}

abbrev pub Accounts : Type 0
Accounts = Axis → Account

abbrev pub opened_two : IdentifyConfig → Accounts
opened_two c x = opened c

-- "if either window is integrated when duration_s is reached": with this call counted, of an account that runs
unfoldable pub wishes : Account → Call → Bool
wishes a c =
    let b = counted a c in
    a.running && not (lt b.elapsed b.end) && is_integrated (account_class b)

abbrev pub next_two : Accounts → TwoCall → Accounts
next_two a c x = next (a x) (tied wishes a c x)

-- the calls of an axis, each with the other's wish
unfoldable pub calls_of : Accounts → List TwoCall → Axis → List Call
calls_of a [] x = []
calls_of a (c ∷ cs) x = tied wishes a c x ∷ calls_of (next_two a c) cs x

-- "each axis keeps the account of a single probe, with the shared extension as the one tie between them"
abbrev pub account_two : Accounts → List TwoCall → Accounts
account_two a calls x = account (a x) (calls_of a calls x)
