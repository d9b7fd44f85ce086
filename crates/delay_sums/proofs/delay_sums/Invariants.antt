-- `delay_sums::delay_sums` meets its contract. The loop's invariant: the columns before j are filled in.
use mathlib.Core.Path.{◌≡◌}
use Rattle.float.specs.Series.{fill}
use Rattle.delay_sums.specs.Delays.{place_of, against}
use Rattle.delay_sums.proofs.delay_sums.Given as goal

abbrev pub invariant-loop-j : goal.invariant-loop-j
invariant-loop-j l = l.column-items ≡ fill (λ j s. against l.shared l.delay.ticks (place_of j)) l.initial.column-items l.j
