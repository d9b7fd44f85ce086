-- The loop's invariant: `least` is the least of the residuals before the entry's place.
use Rattle.std.proofs.Common.{◌≡◌}
use Rattle.delay.specs.Tie.{residuals, least_to}
use Rattle.delay.proofs.least_residual.Given as goal

abbrev pub invariant-loop-entry : goal.invariant-loop-entry
invariant-loop-entry l = l.least ≡ least_to (residuals l.all l.entries) l.entry-index
