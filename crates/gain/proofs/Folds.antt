-- The sum of the products of the first entries of two lists is the dot product of the two as series.
use Rattle.std.proofs.Common.{◌≡◌, ℕ, ◌≤◌, List, length, take, zip, refl, ◌∙◌, arith, get_or-take, length-take-le}
use Rattle.std.proofs.lemmas.Slice.Zip.{length-zip, get_or-zip}
use lib.Ieee.{Float, nan, binary64}
use Rattle.float.specs.Series.{at, sum_to, dot_to}
use Rattle.float.proofs.Folds.{fold_is}
use Rattle.gain.specs.Prepared.{products}

pub products_are : (a b : List Float) (n : ℕ) → n ≤ length a → n ≤ length b → products (take n a) (take n b) ≡ dot_to binary64 (at a) (at b) n
unfolding sum_to
products_are a b n h k =
    let e : length (take n a) ≡ n = length-take-le n a h in
    let o : length (take n b) ≡ n = length-take-le n b k in
    fold_is _ _ (zip (take n a) (take n b)) (nan, nan) (dot_to binary64 (at a) (at b)) refl n (length-zip (take n a) (take n b) ∙ rw (e, o) (omega arith))
    (λ i z. rw (get_or-zip (take n a) (take n b) i (nan, nan) (rw e z) (rw o z), get_or-take n a i nan z, get_or-take n b i nan z) refl)
