-- The call is read and answered in its two words, as `two_axis_calls` does.
use Prim.Native.Nat.{◌*◌}
use mathlib.Core.Path.{◌≡◌}
use Rattle.batch.specs.Calls.{calls_to}
use Rattle.two_axis_calls.specs.Calls.{call_at}
use Rattle.two_axis_run.proofs.Runs.{runs_on, answers_more}
use Rattle.two_axis_run.proofs.Words.{call_in_part, words_alone}
use Rattle.two_axis_run.proofs.TwoAxesFlight.step.Goals as goal

pub returns : goal.returns
unfolding calls_to
returns c config calls k stands part =
    let x = call_at calls (20 * k) in
    let read : call_at c.args.call.now 0 ≡ x = rw part (call_in_part (20 * k) calls) in (
      runs_on stands x (rw read at c.run_call.ensures.left),
      rw (c.run_call.ensures.output, words_alone _ c.args.answer.now c.requires.answer, read) (answers_more stands x),
    )
