-- `shared_sums::sum_shared` meets its contract. The loop's invariant: the sums are the walk over the ticks before k, and `run` is the good ticks in a row there.
use Prim.Native.Nat.{◌≤◌}
use Rattle.rows.proofs.Walked.{Walked}
use Rattle.shared_sums.proofs.Walk.{no_shared, add_shared}
use Rattle.shared_sums.proofs.sum_shared.Given as goal

abbrev pub invariant-loop-k : goal.invariant-loop-k
invariant-loop-k l = (l.sums.rows ≤ l.k) × Walked l.held (add_shared l.rates l.moments) no_shared l.k l.run l.sums
