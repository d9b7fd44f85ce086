-- `cholesky::diagonals_above_zero` meets its contract: `all` is true where each diagonal's test is.
use mathlib.Core.Path.{refl, ◌∙◌}
use lib.Ieee.{lt}
use Rattle.std.proofs.Common.{rules}
use Rattle.std.proofs.Math.Bool.{and_assoc, and-true}
use Rattle.std.proofs.lemmas.Iterator.{YieldsList-from_range}
use Rattle.std.proofs.lemmas.Iterator.Search.{all_from_yields_List}
use Rattle.float.specs.Values.{zero32}
use Rattle.cholesky.specs.Cholesky.{entry_at, reduced, above}
use Rattle.cholesky.proofs.ColumnOrder.{tested_in_order}
use Rattle.cholesky.proofs.diagonals_above_zero.Goals as goal

pub returns : goal.returns
unfolding above
returns c =
    tested_in_order _ _ _
    (all_from_yields_List (λ j. lt zero32 (reduced c.args.l.now j j (entry_at c.args.a.now j j) j)) _ _ _ c.all.ensures.ran (YieldsList-from_range 0 6 6 refl refl) (λ x b q k. search rules)
    ∙ simp (and_assoc, and-true))
