-- The list is made delay by delay.
use Rattle.std.proofs.Common.{rules, None}
use Rattle.float.proofs.Made.{made_new}
use Rattle.recorded.specs.Stages.{solved_from, solved_list}
use Rattle.recorded.proofs.solve_delays.Goals as goal

pub returns : goal.returns
unfolding solved_list
returns c = made_new _ _ (solved_from c.args.shared) (search rules) c.from_fn.result 10 None c.from_fn.ensures.items
