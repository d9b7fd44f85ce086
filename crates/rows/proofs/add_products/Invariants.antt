-- `rows::add_products` meets its contract. The loop's invariant: the lists before a have their products added.
use mathlib.Core.Path.{◌≡◌}
use lib.Ieee.{binary32, add, mul}
use Rattle.float.specs.Series.{at}
use Rattle.rows.specs.Rows.{each}
use Rattle.rows.proofs.add_products.Given as goal

abbrev pub invariant-loop-a : goal.invariant-loop-a
invariant-loop-a g l = l.sums ≡ each l.a (λ a r. each g.row.N (λ b s. add binary32 s (mul binary32 (at l.left a) (at l.right b))) r) l.initial.sums
