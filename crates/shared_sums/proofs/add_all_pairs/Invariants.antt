-- `shared_sums::add_all_pairs` meets its contract. The loop's invariant: the pairs of moments fewer than o ticks apart have their products added.
use Prim.Native.Nat.{◌+◌, ◌-◌}
use mathlib.Core.Path.{◌≡◌}
use lib.Ieee.{binary32, add, mul}
use Rattle.float.specs.Series.{at}
use Rattle.rows.specs.Rows.{each}
use Rattle.shared_sums.proofs.add_all_pairs.Given as goal

abbrev pub invariant-loop-o : goal.invariant-loop-o
invariant-loop-o l = l.sums ≡ each l.o (λ o r. each (12 - o) (λ j s. add binary32 s (mul binary32 (at l.moments j) (at l.moments (j + o)))) r) l.initial.sums
