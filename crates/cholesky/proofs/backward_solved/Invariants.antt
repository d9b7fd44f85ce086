-- `cholesky::backward_solved` meets its contract. The loop's invariant: the entries of s from i on are filled.
use Prim.Native.Nat.{◌-◌}
use mathlib.Core.Path.{◌≡◌}
use lib.ListN.{replicate}
use Rattle.float.specs.Values.{zero32}
use Rattle.cholesky.specs.Cholesky.{backward_entry, fill_down}
use Rattle.cholesky.proofs.backward_solved.Given as goal

abbrev pub invariant-loop-i : goal.invariant-loop-i
invariant-loop-i l = l.s ≡ fill_down (backward_entry l.l l.z) (replicate 6 zero32) (6 - l.i)
