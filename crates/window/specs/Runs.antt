-- Good runs and their rows: 01, "The account of a list of steps" and "The report".
use Rattle.std.specs.Prelude.{ℕ, suc, ◌+◌, ◌-◌, Bool, true, false, List, [], ◌∷◌, ◌++◌, length, take, drop}

-- "A good run is a maximal stretch of neighbouring unmarked ones": the runs among the marks from tick k on, each the list of its ticks.
-- r is the run that ends just before tick k. Between two neighbouring marked ticks the run is empty.
unfoldable pub runs_from : List ℕ → ℕ → List Bool → List (List ℕ)
runs_from r k [] = r ∷ []
runs_from r k (true ∷ marks) = r ∷ runs_from [] (suc k) marks
runs_from r k (false ∷ marks) = runs_from (r ++ (k ∷ [])) (suc k) marks

abbrev pub good_runs : List Bool → List (List ℕ)
good_runs marks = runs_from [] 0 marks

-- "Held counts the marked samples"
unfoldable pub held_of : List Bool → ℕ
held_of [] = 0
held_of (true ∷ marks) = suc (held_of marks)
held_of (false ∷ marks) = held_of marks

-- "each from its 12th on is a row": the ticks that are rows, in tick order
unfoldable pub rows_of : List (List ℕ) → List ℕ
rows_of [] = []
rows_of (r ∷ rs) = drop 11 r ++ rows_of rs

-- "warm sums min(run, 11) over the good runs"
unfoldable pub warm_of : List (List ℕ) → ℕ
warm_of [] = 0
warm_of (r ∷ rs) = length (take 11 r) + warm_of rs

-- each run's length less 11, or 0 where it is shorter, summed
unfoldable pub beyond : List (List ℕ) → ℕ
beyond [] = 0
beyond (r ∷ rs) = (length r - 11) + beyond rs
