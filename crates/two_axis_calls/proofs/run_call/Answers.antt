-- The words of the answer, written one behind the other.
use Rattle.wire.specs.Words.{words_within}
use Rattle.two_axis_calls.proofs.run_call.Goals as goal

pub returns-clause-output : goal.returns-clause-output
unfolding words_within
returns-clause-output c = rw (c.write_values.ensures.each, c.words_of.ensures, c.step-answer.ensures.answer, c.call_of.ensures)
