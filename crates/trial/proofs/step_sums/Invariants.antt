-- `trial::step_sums` meets its contract. The loop's invariant: lagged, and last in f64, are the moments before this turn's through the lag, and m and the sums are those of the places before it
-- (`Running`, gain/proofs/Accumulators.antt).
use Rattle.std.proofs.Common.{◌≡◌, ◌+◌, length}
use Rattle.float.specs.Series.{at}
use Rattle.lags.specs.Lags.{lag_to}
use Rattle.gain.specs.Gain.{regressor}
use Rattle.gain.proofs.Accumulators.{Running}
use Rattle.trial.proofs.step_sums.Given as goal

abbrev pub invariant-loop-moment : goal.invariant-loop-moment
invariant-loop-moment l =
    (l.lagged ≡ lag_to l.pole (at l.input.moments.now) (l.first + length l.yielded)) × (l.last ≡ lag_to l.pole (at l.input.moments.now) (l.first + length l.yielded))
    × Running l.shared.carry (regressor l.step l.pole (at l.input.moments.now)) (at l.input.constants.now) (at l.input.changes.now) (length l.yielded) l.m l.sums
