-- The counts over the first ticks of a window: 01, "The report".
use Rattle.std.specs.Prelude.{ℕ, suc, Bool, true, false, List, leb}
use Rattle.window.specs.Walk.{mark_at, is_held, is_warm, is_row, run}
use Rattle.window.specs.Arrays.{many_to}
use Rattle.counting.specs.declared.Counts.{Counts}
use Rattle.counting.specs.declared.Tally.{Tally}

unfoldable pub counts_to : List Bool → ℕ → Counts
counts_to marks n = record { held = many_to is_held marks n; warm = many_to is_warm marks n; rows = many_to is_row marks n }

-- the counts of the first ticks, and the run that ends with the last of them
unfoldable pub tally_to : List Bool → ℕ → Tally
tally_to marks n = record { counts = counts_to marks n; run = run (mark_at marks) n }

abbrev pub counted_good : Bool → Counts → Counts
counted_good true c = record c { rows = suc c.rows }
counted_good false c = record c { warm = suc c.warm }

-- one more tick: held, warm or a row
unfoldable pub tallied : Tally → Bool → Tally
tallied t true = record { counts = record t.counts { held = suc t.counts.held }; run = 0 }
tallied t false = record { counts = counted_good (leb 11 t.run) t.counts; run = suc t.run }
