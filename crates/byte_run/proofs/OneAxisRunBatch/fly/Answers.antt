-- A run starts with a probe just made and empty arrays.
use Rattle.std.proofs.Common.{rules}
use Rattle.batch.specs.Calls.{calls_to, calls_of}
use Rattle.byte_run.specs.ByteRun.{written}
use Rattle.byte_run.proofs.Runs.{begins_run}
use Rattle.byte_run.proofs.OneAxisRunBatch.fly.Goals as goal

pub returns : goal.returns
unfolding calls_to calls_of written
returns c = c.fly.ensures.output c.args.config (begins_run c.fresh.ensures (search rules))
