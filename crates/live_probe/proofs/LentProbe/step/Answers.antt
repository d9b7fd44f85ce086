-- What is flown flies.
use Rattle.std.specs.Prelude.{Ok}
use Rattle.std.proofs.Common.{rules}
use Rattle.float.specs.Values.{zero32}
use Rattle.rules.specs.Numbers.{numbered, numbers}
use Rattle.account.specs.Probe.{number}
use Rattle.identify.specs.Seen.{call_of, reply_of}
use Rattle.live_probe.specs.Live.{live_step, scalars_after, offset_after, value_or}
use Rattle.live_probe.proofs.Flying.{flies_on}
use Rattle.live_probe.proofs.LentProbe.step.Goals as goal

pub returns-in_err-offset-clause-flown : goal.returns-in_err-offset-clause-flown
unfolding live_step scalars_after offset_after value_or reply_of number numbered numbers
returns-in_err-offset-clause-flown c = flies_on _ (call_of c.args.call) _ _ (λ found. search rules)

pub returns-in_default-clause-flown : goal.returns-in_default-clause-flown
unfolding live_step scalars_after offset_after value_or reply_of number numbered numbers
returns-in_default-clause-flown c = flies_on _ (call_of c.args.call) (Ok zero32) _ (λ found. search rules)

pub returns-clause-flown : goal.returns-clause-flown
unfolding live_step scalars_after offset_after value_or reply_of number numbered numbers
returns-clause-flown c = flies_on _ (call_of c.args.call) (Ok c.in-Some.offset) _ (λ found. search rules)
