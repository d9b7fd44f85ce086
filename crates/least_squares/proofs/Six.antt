-- On six entries the library's fold of the products is the dot product, and its test of all is the test of six.
use Rattle.std.proofs.Common.{◌≡◌, ℕ, suc, ◌<◌, ◌≤◌, zero, List, length, refl, ◌∙◌, arith, take, add-one}
use lib.Seq.{take-length}
use Rattle.std.proofs.lemmas.List.Folds.{list_all_more}
use lib.Ieee.{Float, nan, binary32, add, mul}
use Rattle.std.specs.List.{fold, zip, list_all}
use Rattle.std.proofs.lemmas.Slice.Zip.{length-zip, get_or-zip}
use Rattle.float.specs.Values.{zero32, finite}
use Rattle.float.specs.Series.{at, dot_to, sum_to}
use Rattle.float.proofs.Folds.{fold_is}
use Rattle.least_squares.specs.Solve.{dot, all_finite}

pub dot_is : (x y : List Float) → length x ≡ 6 → length y ≡ 6 → fold (λ (s : Float) (p : Float × Float). add binary32 s (mul binary32 p.0 p.1)) zero32 (zip x y) ≡ dot x y
unfolding dot sum_to
dot_is x y h g =
    fold_is _ zero32 (zip x y) (nan, nan) (dot_to binary32 (at x) (at y)) refl 6 (simp length-zip (omega arith))
    (λ k p. let u : k < length x = omega arith in let v : k < length y = omega arith in rw (get_or-zip x y k (nan, nan) u v))

first_finite : (s : List Float) (n : ℕ) → n ≤ length s → list_all finite (take n s) ≡ all_finite s n
unfolding all_finite
first_finite s zero h = refl
first_finite s (suc n) h =
    let u : n < length s = omega arith in
    let l : n ≤ length s = omega arith in
    (rw (add-one n) at (list_all_more finite s n nan u)) ∙ rw (first_finite s n l)

pub six_finite : (s : List Float) → length s ≡ 6 → list_all finite s ≡ all_finite s 6
six_finite s h =
    let all : take 6 s ≡ s = rw (← h) (take-length s) in
    rw all at (first_finite s 6 (omega arith))
