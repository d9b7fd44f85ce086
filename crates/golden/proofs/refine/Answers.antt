use Rattle.std.proofs.Common.{refl, sym, ◌∙◌, arith}
use Rattle.golden.specs.Golden.{refined}
use Rattle.golden.proofs.Rounds.{done, no_left, no_right, keep_left, keep_right}
use Rattle.golden.proofs.refine.Goals as goal
use Rattle.golden.proofs.refine.Goals.{then-left_fit-right_fit, else-left_fit-right_fit}

pub loop-made-preserved : goal.loop-made-preserved
loop-made-preserved c =
    let k = c.loop-made in
    let l = sym c.fit_at.ensures ∙ c.in-Some.is in
    let r = sym c.fit_at-in-loop-made.ensures ∙ c.in-Some-fit_at.is in (
      refl,
      elim c.if-left_fit-right_fit.branch [
        | then-left_fit-right_fit w ↦ rw (w.low-is, w.high-is, w.best-is, w.better-best.ensures, w.candidate.ensures)
            (sym (keep_left _ k.made k.low k.high k.best (omega arith) _ _ l r w.if-left_fit-right_fit.true) ∙ k.invariant.1)
        | else-left_fit-right_fit w ↦ rw (w.low-is, w.high-is, w.best-is, w.better-best-else-left_fit-right_fit.ensures, w.candidate-else-left_fit-right_fit.ensures)
            (sym (keep_right _ k.made k.low k.high k.best (omega arith) _ _ l r w.if-left_fit-right_fit.false) ∙ k.invariant.1)
      ],
    )

pub returns-after-loop-made : goal.returns-after-loop-made
unfolding refined
returns-after-loop-made c =
    let k = c.loop-made in (rw k.invariant.0 (sym (done _ k.made k.low k.high k.best c.loop-made-test.false) ∙ k.invariant.1), omega arith)

pub returns-in_default : goal.returns-in_default
unfolding refined
returns-in_default c =
    let k = c.loop-made in (
      sym (no_left _ k.made k.low k.high k.best (omega arith) (sym c.fit_at.ensures ∙ c.in_default.is)) ∙ k.invariant.1,
      omega arith,
    )

pub returns-in_default-fit_at : goal.returns-in_default-fit_at
unfolding refined
returns-in_default-fit_at c =
    let k = c.loop-made in (
      sym (no_right _ k.made k.low k.high k.best (omega arith) _ (sym c.fit_at.ensures ∙ c.in-Some.is)
          (sym c.fit_at-in-loop-made.ensures ∙ c.in_default-fit_at.is))
          ∙ k.invariant.1,
      omega arith,
    )
