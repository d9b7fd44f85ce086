-- The fold over the columns before i, each beside its z, is the definition's recursion.
use Rattle.std.proofs.Common.{rules, tests, ◌≡◌, List, take, arith}
use Rattle.std.specs.List.{fold, zip}
use Rattle.std.proofs.lemmas.Iterator.{YieldsList-from_slice, YieldsList-from_zip}
use Rattle.std.proofs.lemmas.Iterator.Consumers.{YieldsList-at, fold_from_yields_List}
use lib.Ieee.{Float, binary32, sub, mul}
use Rattle.float.specs.Series.{at}
use Rattle.cholesky.specs.Cholesky.{forward_entry}
use Rattle.cholesky.proofs.Folds.{forward_is}
use Rattle.cholesky.proofs.forward_entry.Goals as goal

pub returns : goal.returns
unfolding forward_entry
returns c =
    let l = c.args.l.now in
    let z = c.args.z.now in
    let i = c.args.i in
    let r : c.fold.result ≡ fold (λ (e : Float) (p : List Float × Float). sub binary32 e (mul binary32 (at p.0 i) p.1)) (at c.args.b.now i) (zip (take i l) z) =
    fold_from_yields_List _ _ _ _ c.fold.ensures.ran
    (YieldsList-from_zip (YieldsList-at c.zip-before.ensures.first (YieldsList-from_slice (take i l) (cc))) (YieldsList-from_slice z (cc)))
    (λ a x b q k. search (rules, tests)) in
    rw (r, forward_is l z _ i (omega (arith, c.told-l)) (omega (arith, c.told-z)))
