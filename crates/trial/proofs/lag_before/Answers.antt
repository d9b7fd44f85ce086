-- `trial::lag_before` meets its contract: the fold over the first n moments is the recursion over n.
use Rattle.std.proofs.Common.{take, refl, ◌∙◌, rules, arith}
use Rattle.std.proofs.lemmas.Iterator.{YieldsList-from_slice}
use Rattle.std.proofs.lemmas.Iterator.Consumers.{fold_from_yields_List}
use lib.Ieee.{Float, nan, binary32, add, sub, mul}
use Rattle.float.specs.Values.{zero32, one32}
use Rattle.float.specs.Series.{at}
use Rattle.float.proofs.Folds.{fold_take}
use Rattle.lags.specs.Lags.{lag_to}
use Rattle.trial.proofs.lag_before.Goals as goal

pub returns : goal.returns
unfolding lag_to
returns c =
    let a = c.args in
    let on = λ (lagged u : Float). add binary32 (mul binary32 a.pole lagged) (mul binary32 (sub binary32 one32 a.pole) u) in
    let e = fold_from_yields_List _ on zero32 c.fold.result c.fold.ensures.ran (YieldsList-from_slice (take a.n a.moments.now) c.iter.ensures.rest) (λ x y z q k. search rules) in
    e ∙ fold_take on zero32 a.moments.now nan (lag_to a.pole (at a.moments.now)) refl a.n (omega arith) (λ k p. refl)
