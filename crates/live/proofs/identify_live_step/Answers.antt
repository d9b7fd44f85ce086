-- `steady_probe::step` ensures it of the arrays, which are those that were lent, and of the clock, which a refused call leaves.
use mathlib.Core.Path.{◌∙◌}
use Rattle.std.proofs.Common.{rules}
use Rattle.rules.specs.Numbers.{numbered}
use Rattle.steady.proofs.Kept.{clock_stays}
use Rattle.live_probe.specs.Live.{value_or}
use Rattle.steady_probe.proofs.Flying.{steps_flight, steps_too}
use Rattle.steady_probe.proofs.SteadyFlying.{probe, follows}
use Rattle.live.proofs.identify_live_step.Goals as goal

pub returns-in-Ok-clause-flight : goal.returns-in-Ok-clause-flight
unfolding numbered value_or
returns-in-Ok-clause-flight c = search rules

pub returns-in-Err-clause-flight : goal.returns-in-Err-clause-flight
unfolding numbered value_or
returns-in-Err-clause-flight c =
    let stays = c.in-Err.ensures.clock ∙ clock_stays c.in-Err.rule _ _ _ in
    let told = rw stays at (c.in-Err.ensures.flight c.args.offset.now) in
    search rules

pub returns-in-Ok-clause-flown : goal.returns-in-Ok-clause-flown
returns-in-Ok-clause-flown c = steps_flight probe follows _ _ _ _ _ _ _ _ (returns-in-Ok-clause-flight c)

pub returns-in-Err-clause-flown : goal.returns-in-Err-clause-flown
returns-in-Err-clause-flown c = steps_flight probe follows _ _ _ _ _ _ _ _ (returns-in-Err-clause-flight c)

pub returns-in-Ok-clause-plain : goal.returns-in-Ok-clause-plain
returns-in-Ok-clause-plain c = steps_too probe follows _ _ _ _ _ _ _ _ (returns-in-Ok-clause-flight c)

pub returns-in-Err-clause-plain : goal.returns-in-Err-clause-plain
returns-in-Err-clause-plain c = steps_too probe follows _ _ _ _ _ _ _ _ (returns-in-Err-clause-flight c)
