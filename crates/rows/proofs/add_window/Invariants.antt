-- `rows::add_window` meets its contract. The loop's invariant: the sums are the walk over the ticks before k, and `run` is the good ticks in a row there.
use Rattle.rows.proofs.Walked.{Walked}
use Rattle.rows.proofs.Together.{add_row}
use Rattle.rows.proofs.add_window.Given as goal

abbrev pub invariant-loop-k : goal.invariant-loop-k
invariant-loop-k l = Walked l.held (add_row l.rates l.moments l.delay.ticks) l.initial.sums l.k l.run l.sums
