-- The fold over the columns before j is the definition's recursion.
use Rattle.std.proofs.Common.{rules, tests, List, take, ◌∙◌, arith}
use Rattle.std.proofs.lemmas.Iterator.{YieldsList-from_slice}
use Rattle.std.proofs.lemmas.Iterator.Consumers.{fold_from_yields_List}
use lib.Ieee.{Float, binary32, add, mul, neg}
use Rattle.float.specs.Series.{at}
use Rattle.cholesky.proofs.Folds.{reduced_is}
use Rattle.cholesky.proofs.reduced_entry.Goals as goal

pub returns : goal.returns
returns c =
    let l = c.args.l.now in
    fold_from_yields_List _ (λ (e : Float) (k : List Float). add binary32 (mul binary32 (neg (at k c.args.j)) (at k c.args.i)) e) _ _
    c.fold.ensures.ran (YieldsList-from_slice (take c.args.j l) (cc)) (λ a x b q k. search (rules, tests))
    ∙ reduced_is l _ _ _ _ (omega (arith, c.told-l))
