-- The library's words for a moment at the rail: the magnitude is the float with its sign off, and the count is the library's.
use mathlib.Core.Path.{◌≡◌, refl, ◌∙◌}
use mathlib.Core.Bool.{false, cond}
use mathlib.Core.List.{List, [], ◌∷◌}
use lib.Ieee.{Float, nan, inf, fin}
use Rattle.std.specs.List.{count_by}
use Rattle.std.specs.Float.{float_with_sign}
use Rattle.std.proofs.lemmas.List.Sums.{sum_by-cons}
use Rattle.float.specs.Values.{magnitude}
use Rattle.recorded.specs.Classify.{at_rail, count_at_rail}

pub magnitude_is : (x : Float) → float_with_sign false x ≡ magnitude x
unfolding magnitude float_with_sign
magnitude_is nan = refl
magnitude_is (inf s) = refl
magnitude_is (fin s m e) = refl

pub count_is : (l : List Float) → count_by at_rail l ≡ count_at_rail l
unfolding count_at_rail
count_is [] = refl
count_is (x ∷ l) = sum_by-cons (λ y. cond (at_rail y) 1 0) x l ∙ rw (count_is l)
