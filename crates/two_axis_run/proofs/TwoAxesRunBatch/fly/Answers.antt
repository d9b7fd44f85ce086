-- A run starts with two probes just made and empty arrays.
use Rattle.std.proofs.Common.{rules}
use Rattle.two_axis_probe.proofs.Flying.{by_axis}
use Rattle.batch.specs.Calls.{calls_to, calls_of}
use Rattle.two_axis_run.specs.TwoAxisRun.{written}
use Rattle.two_axis_run.proofs.Runs.{begins_run}
use Rattle.two_axis_run.proofs.TwoAxesRunBatch.fly.Goals as goal

pub returns : goal.returns
unfolding calls_to calls_of written
returns c = c.fly.ensures.output c.args.config (begins_run c.fresh.ensures (by_axis _ (search rules) (search rules)))
