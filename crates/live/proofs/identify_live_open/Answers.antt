-- `steady_probe::open` ensures it of the clock that it answers.
use Rattle.std.proofs.Common.{rules}
use Rattle.rules.specs.Numbers.{numbered}
use Rattle.live_probe.specs.Live.{value_or}
use Rattle.steady_probe.proofs.Flying.{begun_behind}
use Rattle.steady_probe.proofs.SteadyFlying.{probe, follows}
use Rattle.live.proofs.identify_live_open.Goals as goal

pub returns-in-Ok-clause-opening : goal.returns-in-Ok-clause-opening
unfolding numbered value_or
returns-in-Ok-clause-opening c = search rules

pub returns-in-Err-clause-opening : goal.returns-in-Err-clause-opening
unfolding numbered value_or
returns-in-Err-clause-opening c = search rules

pub returns-in-Ok-clause-flown : goal.returns-in-Ok-clause-flown
returns-in-Ok-clause-flown c = begun_behind probe follows _ _ _ _ _ _ _ (returns-in-Ok-clause-opening c)

pub returns-in-Err-clause-flown : goal.returns-in-Err-clause-flown
returns-in-Err-clause-flown c = begun_behind probe follows _ _ _ _ _ _ _ (returns-in-Err-clause-opening c)
