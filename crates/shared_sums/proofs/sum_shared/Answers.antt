use mathlib.Core.Path.{◌≡◌, sym, ◌∙◌}
use native.Mathlib.Omega.{arith}
use Rattle.window.specs.Arrays.{stored_of}
use Rattle.rows.proofs.Walked.{begun, skipped, added, late}
use Rattle.shared_sums.proofs.Walk.{shared_added, shared_walk}
use Rattle.shared_sums.proofs.sum_shared.Goals as goal

pub loop-k-init : goal.loop-k-init
loop-k-init c = (omega arith, begun)

pub loop-k-preserved-then-run-lt-HISTORY : goal.loop-k-preserved-then-run-lt-HISTORY
loop-k-preserved-then-run-lt-HISTORY c =
    (omega arith, skipped c.loop-k.invariant.1 c.next_run-run.ensures c.if-run-lt-HISTORY.true)

pub of_tick-row-requires : goal.of_tick-row-requires
unfolding stored_of
of_tick-row-requires c =
    (late c.loop-k.invariant.1 c.next_run-run.ensures c.if-run-lt-HISTORY.false, omega (arith, c.stored-k-end.ensures))

pub loop-k-preserved : goal.loop-k-preserved
loop-k-preserved c =
    let l = c.loop-k in (
      omega (arith, l.invariant.0),
      added l.invariant.1 c.next_run-run.ensures c.if-run-lt-HISTORY.false
          (shared_added _ _ _ _ c.of_tick-row.ensures.terms c.of_tick-row.ensures.moments c.add_products.ensures c.add_products-in-loop-k.ensures c.add_all_pairs.ensures),
    )

pub returns : goal.returns
returns c =
    let l = c.loop-k in
    let n = c.stored-k-end in
    let e : l.k ≡ n.result = omega arith in
    let w = rw e at l.invariant.1 in
    rw (← n.ensures) (w.total_is ∙ sym (shared_walk _ _ _ _))
