-- `cholesky::factored` meets its contract. The loop's invariant: the columns of L before j are made.
use mathlib.Core.Path.{◌≡◌}
use lib.ListN.{replicate}
use Rattle.float.specs.Values.{zero32}
use Rattle.float.specs.Series.{fill}
use Rattle.cholesky.specs.Cholesky.{factor_column}
use Rattle.cholesky.proofs.factored.Given as goal

abbrev pub invariant-loop-j : goal.invariant-loop-j
invariant-loop-j l = l.l ≡ fill (factor_column l.a) (replicate 6 (replicate 6 zero32)) l.j
