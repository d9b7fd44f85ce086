-- The library's fold over columns or pairs is the definition's recursion over their count.
use Rattle.std.proofs.Common.{◌≡◌, ℕ, ◌+◌, ◌-◌, ◌<◌, ◌≤◌, List, [], length, get_or, take, drop, refl, arith, get_or-take, length-take-le, length-drop}
use Rattle.std.proofs.lemmas.List.{take_all}
use Rattle.std.proofs.lemmas.Slice.Zip.{length-zip, get_or-zip}
use Rattle.std.specs.List.{fold, zip}
use lib.Seq.{get_or-drop}
use lib.Ieee.{Float, nan, binary32, add, sub, mul, neg}
use Rattle.float.specs.Series.{at}
use Rattle.float.proofs.Folds.{fold_take, fold_is}
use Rattle.cholesky.specs.Cholesky.{entry_at, reduced, less}

-- what is left behind the first i
pub tail_is : {A : Type 0} (l : List A) (i n : ℕ) → length l ≡ n → take (n - i) (drop i l) ≡ drop i l
tail_is l i n h = take_all (n - i) (drop i l) (rw (length-drop i l) (omega arith))

pub reduced_is : (l : List (List Float)) (i j : ℕ) (e : Float) (n : ℕ) → n ≤ length l
    → fold (λ (e : Float) (c : List Float). add binary32 (mul binary32 (neg (at c j)) (at c i)) e) e (take n l) ≡ reduced l i j e n
unfolding reduced
reduced_is l i j e n h = fold_take _ e l [] (reduced l i j e) refl n h (λ k p. refl)

module _ {A : Type 0} (f : A → Float) (d : A) (xs : List A) (ys : List Float) (x y : ℕ → Float) (e : Float) (n : ℕ) where
  less_is : length xs ≡ n → n ≤ length ys → ((k : ℕ) → k < n → f (get_or xs k d) ≡ x k) → ((k : ℕ) → k < n → at ys k ≡ y k)
      → fold (λ (s : Float) (p : A × Float). sub binary32 s (mul binary32 (f p.0) p.1)) e (zip xs ys) ≡ less x y e n
  unfolding less
  less_is l m p q =
      fold_is _ e (zip xs ys) (d, nan) (less x y e) refl n (simp length-zip (omega arith))
      (λ k h.
      let u : k < length xs = omega arith in
      let v : k < length ys = omega arith in
      rw (get_or-zip xs ys k (d, nan) u v, p k h, q k h))

pub forward_is : (l : List (List Float)) (z : List Float) (e : Float) (i : ℕ) → i ≤ length l → i ≤ length z
    → fold (λ (s : Float) (p : List Float × Float). sub binary32 s (mul binary32 (at p.0 i) p.1)) e (zip (take i l) z) ≡ less (λ k. entry_at l i k) (λ k. at z k) e i
forward_is l z e i h g =
    less_is (λ c. at c i) [] (take i l) z _ _ e i (length-take-le i l h) g (λ k p. rw (get_or-take i l k [] p)) (λ k p. refl)

pub backward_is : (c s : List Float) (e : Float) (i n : ℕ) → length c ≡ n → length s ≡ n
    → fold (λ (s : Float) (p : Float × Float). sub binary32 s (mul binary32 p.0 p.1)) e (zip (drop i c) (drop i s)) ≡ less (λ k. at c (i + k)) (λ k. at s (i + k)) e (n - i)
backward_is c s e i n h g =
    less_is (λ x. x) nan (drop i c) (drop i s) _ _ e (n - i) (rw (length-drop i c, h)) (rw (length-drop i s, g) (omega arith))
    (λ k p. get_or-drop i c k nan) (λ k p. get_or-drop i s k nan)
