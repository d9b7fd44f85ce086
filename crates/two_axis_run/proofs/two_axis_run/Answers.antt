-- A run that no rule refuses tells what its accounts say.
use Rattle.two_axis_run.specs.TwoAxisRun.{two_axis_run}
use Rattle.two_axis_run.proofs.Ran.{tells}
use Rattle.two_axis_run.proofs.two_axis_run.Goals as goal

pub returns-clause-delays : goal.returns-clause-delays
unfolding two_axis_run
returns-clause-delays c h = (tells c.args.config.now c.args.calls.now c.args.output.now c.run.ensures.result c.run.ensures.output h).delays

pub returns-clause-models : goal.returns-clause-models
unfolding two_axis_run
returns-clause-models c h = (tells c.args.config.now c.args.calls.now c.args.output.now c.run.ensures.result c.run.ensures.output h).models

pub returns-clause-sums : goal.returns-clause-sums
unfolding two_axis_run
returns-clause-sums c h = (tells c.args.config.now c.args.calls.now c.args.output.now c.run.ensures.result c.run.ensures.output h).sums
