use mathlib.Core.Path.{sym, ◌∙◌}
use native.Mathlib.Omega.{arith}
use Rattle.sweep.specs.Sweep.{pass_edge}
use Rattle.sweep.proofs.Passing.{not_due, at_last, one_passed}
use Rattle.sweep.proofs.SquareSweep.pass_edges.Goals as goal

pub loop-s-smaller : goal.loop-s-smaller
unfolding pass_edge
loop-s-smaller c = rw c.pass_edge-s.ensures (omega arith)

pub loop-s-preserved : goal.loop-s-preserved
loop-s-preserved c =
    rw c.pass_edge-s.ensures
    (sym (one_passed c.args.elapsed_s c.loop-s.s (omega arith) (sym c.is_due.ensures ∙ c.if-is_due.true)) ∙ c.loop-s.invariant)

pub returns-else-is_due : goal.returns-else-is_due
returns-else-is_due c = sym (not_due c.args.elapsed_s c.loop-s.s (sym c.is_due.ensures ∙ c.if-is_due.false)) ∙ c.loop-s.invariant

pub returns-after-loop-s : goal.returns-after-loop-s
returns-after-loop-s c = sym (at_last c.args.elapsed_s c.loop-s.s (omega arith)) ∙ c.loop-s.invariant
