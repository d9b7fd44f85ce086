-- The fold over the rows is the sum of as many.
use Rattle.std.proofs.Common.{rules, tests, ℕ, refl, ◌∙◌, arith}
use Rattle.std.proofs.lemmas.Iterator.{YieldsList-from_range}
use Rattle.std.proofs.lemmas.Iterator.Consumers.{fold_from_yields_List}
use Rattle.std.proofs.lemmas.List.FromFn.{length-range_with_len}
use Rattle.std.specs.List.{range_with_len}
use lib.Ieee.{Float, binary32, add}
use Rattle.float.specs.Series.{sum_to}
use Rattle.float.proofs.Folds.{fold_is}
use Rattle.recorded.proofs.sum_rows_dt.Goals as goal

pub returns : goal.returns
unfolding sum_to
returns c =
    let n = c.args.rows in
    fold_from_yields_List _ (λ (s : Float) (k : ℕ). add binary32 s c.args.dt_s) _ _
    c.fold.ensures.ran (YieldsList-from_range 0 n n refl (omega arith)) (λ a x b q k. search (rules, tests))
    ∙ fold_is _ _ (range_with_len 0 n) 0 (sum_to binary32 (λ k. c.args.dt_s)) refl n (length-range_with_len 0 n) (λ k p. refl)
