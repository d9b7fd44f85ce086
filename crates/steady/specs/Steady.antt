-- A probe and an account that are opened plain or as steady, and one claim about every list of calls: 02, request six.
use Rattle.std.specs.Prelude.{ℕ, ◌≡◌, Bool, true, false, cond, List, [], ◌∷◌, ◌++◌, map, Float}
use Rattle.std.specs.Prelude.{Option, Some, None}
use Rattle.account.specs.declared.IdentifyConfig.{IdentifyConfig}
use Rattle.account.specs.Rules.{positive, overrun}
use Rattle.account.specs.Probe.{Call, Probe, Reply, refused, number, clock, fresh_at, step, after, replies}
use Rattle.account.specs.Account.{Account, opened, turned, next, account, time}
use Rattle.account.specs.Claim.{Accounted}
use Rattle.steady.specs.declared.Band.{Band}
use Rattle.steady.specs.declared.Band.TheVariants.{Plain}
use Rattle.steady.specs.Band.{turns_back}
use Rattle.steady.specs.Guarded.{Guarded, without, band_of, lie, number_in, next_in, after_in, numbers_in, even_of, heard}

abbrev pub dt_of : Call → Float
dt_of c = c.dt

-- ---- the account: "The account of a steady probe keeps that first dt, turns the same calls back and changes in nothing on them."
abbrev pub runs_of : Account → Bool
runs_of a = a.running

-- opened plain or as steady
abbrev pub opened_in : Band → IdentifyConfig → Guarded Account
opened_in band c = record { inner = opened c; band = band }

-- for each call the number that it is turned back with, 0 if it is not
abbrev pub turned_in : Guarded Account → List Call → List ℕ
turned_in a calls = numbers_in runs_of dt_of turned next a calls

abbrev pub account_in : Guarded Account → List Call → Guarded Account
account_in a calls = after_in runs_of dt_of turned next a calls

-- the calls without those that 10 turned back, and those accepted while running
abbrev pub even_calls : Band → IdentifyConfig → List Call → List Call
even_calls band c calls = even_of runs_of dt_of turned next (opened_in band c) calls

abbrev pub heard_calls : Band → IdentifyConfig → List Call → List Call
heard_calls band c calls = heard runs_of dt_of turned next (opened_in band c) calls

-- ---- the probe
unfoldable pub is_running : Option Float → Bool
is_running None = false
is_running (Some elapsed) = true

abbrev pub probe_runs : Probe → Bool
probe_runs p = is_running (clock p.standing.status)

abbrev pub probe_number : Probe → Call → ℕ
probe_number p c = number (step p c).reply

abbrev pub probe_next : Probe → Call → Probe
probe_next p c = (step p c).probe

abbrev pub fresh_in : Band → Bool → IdentifyConfig → Guarded Probe
fresh_in band high c = record { inner = fresh_at high c; band = band }

abbrev pub probe_in : Guarded Probe → List Call → Guarded Probe
probe_in p calls = after_in probe_runs dt_of probe_number probe_next p calls

-- what a call answers: 10, or what the probe answers
unfoldable pub reply_in : Guarded Probe → Call → Reply
reply_in p c = cond (turns_back p.band (probe_runs p.inner) c.dt) (refused 10) (step p.inner c).reply

unfoldable pub replies_in : Guarded Probe → List Call → List Reply
replies_in p [] = []
replies_in p (c ∷ cs) = reply_in p c ∷ replies_in (next_in probe_runs dt_of probe_number probe_next p c) cs

-- ---- the claim: p is what the calls leave of a fresh probe, and a the account of the same calls
pub record SteadyAccounted (band : Band) (high : Bool) (c : IdentifyConfig) (calls : List Call) (p : Guarded Probe) (a : Guarded Account) : Type 0 where
  -- the calls that answered a number are those that the account turned back, with the same numbers
  pub refused : map number (replies_in (fresh_in band high c) calls) ≡ turned_in (opened_in band c) calls
  -- "keeps that first dt": both the same, that of the first call accepted while running
  pub tested : p.band ≡ a.band
  pub first : a.band ≡ band_of dt_of band (heard_calls band c calls)
  -- "turns the same calls back and changes in nothing on them": it is the plain probe after the list without the calls that 10 turned back, and keeps the account of that list
  pub probe : p.inner ≡ after (fresh_at high c) (even_calls band c calls)
  pub account : a.inner ≡ account (opened c) (even_calls band c calls)
  pub accounted : Accounted high c (even_calls band c calls) p.inner a.inner
  -- and answers as that does to the calls that it has
  pub answers : without 10 (turned_in (opened_in band c) calls) (replies_in (fresh_in band high c) calls) ≡ replies (fresh_at high c) (even_calls band c calls)
  -- where each dt lies in the band, no call is left out: so it is of a probe that is opened plain
  pub even : lie dt_of a.band calls ≡ true → even_calls band c calls ≡ calls
  pub plain : band ≡ Plain → even_calls band c calls ≡ calls
  -- "tested after 6 and before 7, never on an ended probe": the number of the next call
  pub order : (x : Call) → number_in runs_of dt_of turned next a x
      ≡ cond (positive x.dt) (cond (turns_back a.band a.inner.running x.dt) 10 (overrun (time a.inner.running a.inner) a.inner.ticks x.dt)) 6
  -- the account of these calls and then others is that of the others, continued from this one
  pub continued : (others : List Call) → account_in (opened_in band c) (calls ++ others) ≡ account_in a others
