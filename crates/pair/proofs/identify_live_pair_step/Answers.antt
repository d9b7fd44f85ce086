-- `steady_pair::step` ensures it of the arrays, which are those that were lent, and of the clock, which a refused call leaves.
use mathlib.Core.Path.{◌∙◌}
use Rattle.std.proofs.Common.{rules}
use Rattle.rules.specs.Numbers.{numbered}
use Rattle.steady.proofs.Kept.{clock_stays}
use Rattle.two_axis.specs.Axes.{axes}
use Rattle.live_pair.specs.Pair.{offsets_or}
use Rattle.pair.proofs.Clauses.{steps}
use Rattle.pair.proofs.identify_live_pair_step.Goals as goal

pub returns-in-Ok : goal.returns-in-Ok
unfolding numbered offsets_or
returns-in-Ok c = let told = c.in-Ok.ensures.flight (axes c.args.offset1.now c.args.offset2.now) in steps _ _ _ _ _ _ (search rules)

pub returns-in-Err : goal.returns-in-Err
unfolding numbered offsets_or
returns-in-Err c =
    let stays = c.in-Err.ensures.clock ∙ clock_stays c.in-Err.rule _ _ _ in
    let told = rw stays at (c.in-Err.ensures.flight (axes c.args.offset1.now c.args.offset2.now)) in
    steps _ _ _ _ _ _ (search rules)
