-- M10 to M12 of 01: good and bad samples, as marks.
use mathlib.Core.Path.{◌≡◌, refl}
use mathlib.Core.Bool.{Bool, true, false}
use mathlib.Core.List.{List, ◌∷◌, ◌++◌}
use lib.ListN.{replicate, length}
use Rattle.window.specs.Runs.{good_runs, runs_from, held_of, rows_of, warm_of}

pub M10 : length (rows_of (good_runs (replicate 11 false))) ≡ 0
unfolding runs_from rows_of
M10 = refl

pub M11 : length (rows_of (good_runs (replicate 12 false))) ≡ 1
unfolding runs_from rows_of
M11 = refl

-- 12 good, 1 bad, 13 good
abbrev pub broken : List Bool
broken = replicate 12 false ++ (true ∷ replicate 13 false)

pub M12 : (held_of broken ≡ 1) × (warm_of (good_runs broken) ≡ 22) × (length (rows_of (good_runs broken)) ≡ 3)
unfolding runs_from rows_of held_of warm_of
M12 = (refl, refl, refl)
