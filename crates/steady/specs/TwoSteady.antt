-- Two axes that are opened plain or as steady, behind one test: 02, request six, "one first dt", "refused for both". One claim about every list of two-axis calls.
use Rattle.std.specs.Prelude.{ℕ, ◌≡◌, Bool, true, ◌&&◌, cond, List, [], ◌∷◌, ◌++◌, map, Float}
use Rattle.account.specs.declared.IdentifyConfig.{IdentifyConfig}
use Rattle.account.specs.Probe.{Reply, refused, number}
use Rattle.account.specs.Account.{turned}
use Rattle.two_axis.specs.Axes.{Axis, first, second, TwoCall, tied}
use Rattle.two_axis.specs.Probes.{Probes, fresh_two, step_two, moved, after_two, replies_two}
use Rattle.two_axis.specs.Accounts.{Accounts, opened_two, wishes, next_two, account_two}
use Rattle.two_axis.specs.Claim.{TwoAccounted}
use Rattle.steady.specs.declared.Band.{Band}
use Rattle.steady.specs.declared.Band.TheVariants.{Plain}
use Rattle.steady.specs.Band.{turns_back}
use Rattle.steady.specs.Guarded.{Guarded, without, band_of, lie, next_in, after_in, numbers_in, even_of, heard}
use Rattle.steady.specs.Steady.{probe_runs}

abbrev pub two_dt : TwoCall → Float
two_dt c = c.dt

-- ---- the accounts: both have one clock, so what turns a call back for the first turns it back for both
abbrev pub accounts_run : Accounts → Bool
accounts_run a = (a first).running && (a second).running

abbrev pub accounts_number : Accounts → TwoCall → ℕ
accounts_number a c = turned (a first) (tied wishes a c first)

abbrev pub opened_two_in : Band → IdentifyConfig → Guarded Accounts
opened_two_in band c = record { inner = opened_two c; band = band }

abbrev pub turned_two_in : Guarded Accounts → List TwoCall → List ℕ
turned_two_in a calls = numbers_in accounts_run two_dt accounts_number next_two a calls

abbrev pub account_two_in : Guarded Accounts → List TwoCall → Guarded Accounts
account_two_in a calls = after_in accounts_run two_dt accounts_number next_two a calls

-- the calls without those that 10 turned back, and those accepted while running
abbrev pub even_two_calls : Band → IdentifyConfig → List TwoCall → List TwoCall
even_two_calls band c calls = even_of accounts_run two_dt accounts_number next_two (opened_two_in band c) calls

abbrev pub heard_two_calls : Band → IdentifyConfig → List TwoCall → List TwoCall
heard_two_calls band c calls = heard accounts_run two_dt accounts_number next_two (opened_two_in band c) calls

-- ---- the probes
abbrev pub probes_run : Probes → Bool
probes_run p = probe_runs (p first) && probe_runs (p second)

abbrev pub probes_number : Probes → TwoCall → ℕ
probes_number p c = number (step_two p c first).reply

abbrev pub fresh_two_in : Band → IdentifyConfig → Guarded Probes
fresh_two_in band c = record { inner = fresh_two c; band = band }

abbrev pub probes_in : Guarded Probes → List TwoCall → Guarded Probes
probes_in p calls = after_in probes_run two_dt probes_number moved p calls

-- what a call answers for an axis: 10, or what the axis answers
unfoldable pub reply_two_in : Guarded Probes → TwoCall → Axis → Reply
reply_two_in p c x = cond (turns_back p.band (probes_run p.inner) c.dt) (refused 10) (step_two p.inner c x).reply

unfoldable pub replies_two_in : Guarded Probes → List TwoCall → Axis → List Reply
replies_two_in p [] x = []
replies_two_in p (c ∷ cs) x = reply_two_in p c x ∷ replies_two_in (next_in probes_run two_dt probes_number moved p c) cs x

-- ---- the claim: p is what the calls leave of fresh probes, and a the accounts of the same calls
pub record SteadyTwoAccounted (band : Band) (c : IdentifyConfig) (calls : List TwoCall) (p : Guarded Probes) (a : Guarded Accounts) : Type 0 where
  -- each axis answers a number to the calls that the accounts turned back, with the same numbers: "refused for both"
  pub refused : (x : Axis) → map number (replies_two_in (fresh_two_in band c) calls x) ≡ turned_two_in (opened_two_in band c) calls
  -- one first dt, that of the first call accepted while running
  pub tested : p.band ≡ a.band
  pub first : a.band ≡ band_of two_dt band (heard_two_calls band c calls)
  -- the two plain axes after the list without the calls that 10 turned back, and their accounts of that list
  pub probes : p.inner ≡ after_two (fresh_two c) (even_two_calls band c calls)
  pub accounts : a.inner ≡ account_two (opened_two c) (even_two_calls band c calls)
  pub accounted : TwoAccounted c (even_two_calls band c calls) p.inner a.inner
  -- each axis answers as the plain one does to the calls that it has
  pub answers : (x : Axis)
      → without 10 (turned_two_in (opened_two_in band c) calls) (replies_two_in (fresh_two_in band c) calls x) ≡ replies_two (fresh_two c) (even_two_calls band c calls) x
  -- where each dt lies in the band, no call is left out: so it is of axes that are opened plain
  pub even : lie two_dt a.band calls ≡ true → even_two_calls band c calls ≡ calls
  pub plain : band ≡ Plain → even_two_calls band c calls ≡ calls
  -- the accounts of these calls and then others are those of the others, continued from these
  pub continued : (others : List TwoCall) → account_two_in (opened_two_in band c) (calls ++ others) ≡ account_two_in a others
