-- What is a recorded fit and what is none, evaluated: 02, request four.
use mathlib.Core.Path.{◌≡◌, refl}
use mathlib.Core.Bool.{true, false}
use mathlib.Core.List.{List, [], ◌∷◌}
use lib.ListN.{replicate}
use lib.Ieee.{Float, nan, inf, of_bits, lt, is_nan}
use Rattle.float.specs.Values.{zero32, finite, max_zero}
use Rattle.std.specs.Prelude.{None, Some}
use Rattle.least_squares.specs.Solve.{all_finite, solution_of, kept}

abbrev zeros : List Float
zeros = replicate 6 zero32

-- none: a difference of NaN, and one of infinity, whose residual is infinite. A fit: a difference of -infinity, whose residual is 0
pub examples : kept zeros nan ∷ kept zeros (inf false) ∷ kept zeros (inf true) ∷ [] ≡ None ∷ None ∷ Some (solution_of zeros zero32) ∷ []
unfolding kept all_finite max_zero finite is_nan lt of_bits
examples = refl
