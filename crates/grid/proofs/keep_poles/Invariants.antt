-- `grid::keep_poles` meets its contract. The outer loop's invariant: each step keeps what its candidates of the first 3·i poles leave, and pole and low are those of place 3·i;
-- the inner loop's: of the first 3·i + q poles. One pole more goes by `pole_more` (proofs/Tables.antt).
use Rattle.std.proofs.Common.{◌≡◌, ◌+◌, ◌*◌}
use Rattle.lags.specs.Lags.{pole_of}
use Rattle.gain.specs.Prepared.{fit_of}
use Rattle.grid.specs.Grid.{low_end}
use Rattle.grid.specs.Steps.{kept_below, table_of}
use Rattle.grid.proofs.Tables.{up_to}
use Rattle.grid.proofs.keep_poles.Given as goal

abbrev pub invariant-loop-q : goal.invariant-loop-q
invariant-loop-q l = l.kept ≡ table_of (kept_below l.dt_s (fit_of l.input) (l.i * 3 + l.q))

abbrev pub invariant-loop-i : goal.invariant-loop-i
invariant-loop-i l = (l.low ≡ low_end (pole_of l.dt_s) (l.i * 3)) × (l.pole ≡ up_to l.dt_s (l.i * 3)) × (l.kept ≡ table_of (kept_below l.dt_s (fit_of l.input) (l.i * 3)))
