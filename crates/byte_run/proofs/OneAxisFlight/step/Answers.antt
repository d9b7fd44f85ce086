-- The call is read and answered in its word.
use Prim.Native.Nat.{◌*◌}
use mathlib.Core.Path.{◌≡◌}
use Rattle.batch.specs.Calls.{calls_to}
use Rattle.byte_run.specs.ByteRun.{call_at}
use Rattle.byte_run.proofs.Runs.{goes_on, answers_more, call_in_part, word_alone}
use Rattle.byte_run.proofs.OneAxisFlight.step.Goals as goal

pub returns : goal.returns
unfolding calls_to
returns c config calls k stands part =
    let x = call_at calls (12 * k) in
    let read : call_at c.args.call.now 0 ≡ x = rw part (call_in_part (12 * k) calls) in
    let left = c.run_call.ensures in (
      rw (left.probe, left.lent.contents, read) (goes_on stands x),
      rw (left.output, word_alone _ c.args.answer.now c.requires.answer, read) (answers_more stands x),
    )
