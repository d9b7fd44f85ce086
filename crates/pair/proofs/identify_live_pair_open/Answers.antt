-- `steady_pair::open` ensures it of the clock that it answers.
use Rattle.std.proofs.Common.{rules}
use Rattle.rules.specs.Numbers.{numbered}
use Rattle.steady.specs.Kept.{clock}
use Rattle.live_probe.specs.Live.{value_or}
use Rattle.pair.proofs.Clauses.{opens}
use Rattle.pair.proofs.identify_live_pair_open.Goals as goal

pub returns-in-Ok : goal.returns-in-Ok
unfolding numbered value_or
returns-in-Ok c = let told = c.in-Ok.ensures.opening (clock c.args.steady.now c.args.first_dt_s.now) in opens _ _ _ _ _ _ (search rules)

pub returns-in-Err : goal.returns-in-Err
unfolding numbered value_or
returns-in-Err c = let told = c.in-Err.ensures.opening (clock c.args.steady.now c.args.first_dt_s.now) in opens _ _ _ _ _ _ (search rules)
