-- A run that no rule refuses tells what its account says.
use Rattle.byte_run.proofs.ByteRuns.{tells}
use Rattle.byte_run.specs.ByteRun.{byte_run}
use Rattle.byte_run.proofs.byte_run.Goals as goal

pub returns-clause-delay : goal.returns-clause-delay
unfolding byte_run
returns-clause-delay c = (tells c.args.config.now c.args.calls.now c.args.output.now c.run.ensures.result c.run.ensures.output).0

pub returns-clause-model : goal.returns-clause-model
unfolding byte_run
returns-clause-model c = (tells c.args.config.now c.args.calls.now c.args.output.now c.run.ensures.result c.run.ensures.output).1
