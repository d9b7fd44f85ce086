-- The delay that the status tells is that of what was flown.
use Rattle.probe_words.specs.Layout.{scalars}
use Rattle.live.proofs.Delay.{tells}
use Rattle.live.proofs.identify_live_status.Goals as goal

pub returns-clause-delay : goal.returns-clause-delay
returns-clause-delay c = tells (scalars c.args.words.now c.args.floats.now) _ (rw c.status.ensures.status at c.status-2.ensures.numbers)
