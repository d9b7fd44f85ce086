-- A column is made entry by entry, each from its diagonal's root.
use Rattle.std.proofs.Common.{rules}
use Rattle.float.specs.Values.{zero32}
use Rattle.float.proofs.Made.{made_new}
use Rattle.cholesky.specs.Cholesky.{factor_entry}
use Rattle.cholesky.proofs.factor_column.Goals as goal

pub returns : goal.returns
returns c =
    let a = c.args in
    made_new _ _ (λ i. factor_entry a.a.now i a.j a.l.now _) (search rules) c.from_fn.result 6 zero32 c.from_fn.ensures.items
