-- `shared_sums::add_pairs` meets its contract. The loop's invariant: the entries before j have their products added.
use Prim.Native.Nat.{◌+◌}
use mathlib.Core.Path.{◌≡◌}
use lib.Ieee.{binary32, add, mul}
use Rattle.float.specs.Series.{at}
use Rattle.rows.specs.Rows.{each}
use Rattle.shared_sums.proofs.add_pairs.Given as goal

abbrev pub invariant-loop-j : goal.invariant-loop-j
invariant-loop-j l = l.sums ≡ each l.j (λ j s. add binary32 s (mul binary32 (at l.moments j) (at l.moments (j + l.o)))) l.initial.sums
