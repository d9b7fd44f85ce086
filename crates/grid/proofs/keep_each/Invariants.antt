-- `grid::keep_each` meets its contract. The loop's invariant: the first s steps have had their fit.
use mathlib.Core.Path.{◌≡◌}
use Rattle.float.specs.Series.{fill}
use Rattle.grid.specs.Steps.{against}
use Rattle.grid.proofs.keep_each.Given as goal

abbrev pub invariant-loop-s : goal.invariant-loop-s
invariant-loop-s l = l.kept ≡ fill (against l.bracket l.fits) l.initial.kept l.s
