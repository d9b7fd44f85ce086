-- `cholesky::forward_solved` meets its contract. The loop's invariant: z is filled below entry i.
use Prim.Native.Nat.{◌≤◌}
use mathlib.Core.Path.{◌≡◌}
use lib.ListN.{replicate}
use Rattle.float.specs.Values.{zero32}
use Rattle.float.specs.Series.{fill}
use Rattle.cholesky.specs.Cholesky.{forward_entry}
use Rattle.cholesky.proofs.forward_solved.Given as goal

abbrev pub invariant-loop-i : goal.invariant-loop-i
invariant-loop-i l = (l.i ≤ 6) × (l.z ≡ fill (forward_entry l.l l.b) (replicate 6 zero32) l.i)
