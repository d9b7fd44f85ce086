-- The delay that the status of a probe in flight tells.
use Rattle.std.specs.Prelude.{ℕ, ◌≡◌, List}
use Rattle.window.specs.Lent.{Lent}
use Rattle.delay.specs.HalfTicks.{whole_ticks, half_tick}
use Rattle.account.specs.declared.IdentifyConfig.{IdentifyConfig}
use Rattle.account.specs.Probe.{Call, Reply}
use Rattle.account.specs.Account.{opened, account}
use Rattle.account.specs.Claim.{account_delay}
use Rattle.probe_words.specs.Layout.{Scalars, word}
use Rattle.live_probe.specs.Live.{live}
use Rattle.live_probe.specs.Flown.{Flown}

-- of what was flown it is the account's: in half ticks, and its whole ticks and its half tick apart
abbrev pub TellsDelay : Scalars → List ℕ → Type 0
TellsDelay s numbers =
    (c : IdentifyConfig) (calls : List Call) (answers : List Reply) (l : Lent) → Flown c calls answers (live s l)
    → let delay = account_delay (account (opened c) calls) in
    (word numbers 1 ≡ delay.half_ticks) × (word numbers 2 ≡ whole_ticks delay) × (word numbers 3 ≡ half_tick delay)
