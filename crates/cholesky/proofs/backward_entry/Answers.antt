-- The fold over the entries of column i below the diagonal, each beside its s, is the definition's recursion.
use Rattle.std.proofs.Common.{rules, tests, arith, ◌≡◌, ◌+◌, ◌-◌, length, drop, [], refl, ◌∙◌}
use Rattle.std.specs.List.{fold, zip}
use Rattle.std.proofs.lemmas.Iterator.{YieldsList-from_slice, YieldsList-from_zip}
use Rattle.std.proofs.lemmas.Iterator.Consumers.{YieldsList-at, fold_from_yields_List}
use lib.ListN.{get_or}
use lib.Ieee.{Float, binary32, sub, mul}
use Rattle.float.specs.Series.{at}
use Rattle.cholesky.specs.Cholesky.{backward_entry}
use Rattle.cholesky.proofs.Folds.{tail_is, backward_is}
use Rattle.cholesky.proofs.backward_entry.Goals as goal

pub returns : goal.returns
unfolding backward_entry
returns c =
    let s = c.args.s.now in
    let i = c.args.i in
    let column = get_or c.args.l.now i [] in
    let n : length column ≡ 6 = search rules in
    let r : c.fold.result ≡ fold (λ (e : Float) (p : Float × Float). sub binary32 e (mul binary32 p.0 p.1)) (at c.args.z.now i) (zip (drop (i + 1) column) (drop (i + 1) s)) =
    fold_from_yields_List _ _ _ _ c.fold.ensures.ran
    (YieldsList-from_zip (YieldsList-at c.zip-after.ensures.first (YieldsList-from_slice (drop (i + 1) column) (c.iter.ensures.rest ∙ tail_is column (i + 1) _ refl))) (YieldsList-from_slice (drop (i + 1) s) (let t = tail_is s (i + 1) 6 c.told-s in cc)))
    (λ a x b q k. search (rules, tests)) in
    let m : 6 - (i + 1) ≡ 5 - i = omega arith in
    rw (r, backward_is column s _ (i + 1) 6 n c.told-s, m)
