use mathlib.Core.Path.{◌≡◌, refl, sym, ◌∙◌}
use native.Mathlib.Omega.{arith}
use lib.Ieee.{sub}
use Rattle.window.specs.Arrays.{stored_of}
use Rattle.rows.specs.Rows.{target}
use Rattle.rows.proofs.Walked.{begun, skipped, added, late}
use Rattle.rows.proofs.Together.{row_added, window_walk}
use Rattle.rows.proofs.add_window.Goals as goal

pub loop-k-init : goal.loop-k-init
loop-k-init c = begun

pub loop-k-preserved-then-run-lt-HISTORY : goal.loop-k-preserved-then-run-lt-HISTORY
loop-k-preserved-then-run-lt-HISTORY c = skipped c.loop-k.invariant c.next_run-run.ensures c.if-run-lt-HISTORY.true

pub regressors-terms-requires : goal.regressors-terms-requires
unfolding stored_of
regressors-terms-requires c =
    (late c.loop-k.invariant c.next_run-run.ensures c.if-run-lt-HISTORY.false, omega (arith, c.stored-k-end.ensures))

pub overflow_sub-target : goal.overflow_sub-target
overflow_sub-target c = omega (arith, late c.loop-k.invariant c.next_run-run.ensures c.if-run-lt-HISTORY.false)

pub loop-k-preserved : goal.loop-k-preserved
unfolding target sub
loop-k-preserved c =
    added c.loop-k.invariant c.next_run-run.ensures c.if-run-lt-HISTORY.false
    (row_added _ _ _ _ _ c.regressors-terms.ensures refl c.add_products.ensures c.add_scaled.ensures)

pub returns : goal.returns
returns c =
    let l = c.loop-k in
    let e : l.k ≡ c.stored-k-end.result = omega arith in
    let w = rw e at l.invariant in
    rw (← c.delay_within-delay.ensures, ← c.stored-k-end.ensures) (w.total_is ∙ sym (window_walk _ _ _ _ _ _))
