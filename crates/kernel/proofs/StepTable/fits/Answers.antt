-- The fits are made step by step, each from its own lane.
use Rattle.std.proofs.Common.{rules, min, None}
use Rattle.float.proofs.Made.{made_new}
use Rattle.kernel.specs.Kernel.{solved_step}
use Rattle.kernel.proofs.StepTable.fits.Goals as goal

pub returns : goal.returns
returns c = made_new _ _ (solved_step c.args.self.now (min c.args.q 2)) (search rules) c.from_fn.result 20 None c.from_fn.ensures.items
