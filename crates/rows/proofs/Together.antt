-- A delay's sums, each of which is walked by itself, are one walk that adds a row to all of them.
use Prim.Native.Nat.{ℕ, zero, suc}
use mathlib.Core.Path.{◌≡◌, refl, sym, ap, ◌∙◌}
use mathlib.Core.Bool.{Bool, true, false, cond}
use mathlib.Core.List.{List}
use lib.Ieee.{Float, binary32, add, mul}
use Rattle.float.specs.Values.{zero32}
use Rattle.float.specs.Series.{at, sum_to}
use Rattle.float.proofs.Products.{commutes}
use Rattle.window.specs.Walk.{run, over, mark_at, is_row}
use Rattle.window.specs.Arrays.{many_to}
use Rattle.least_squares.specs.declared.Sums.{Sums}
use Rattle.rows.specs.Rows.{target, regressors, product, projection, each, sum_rows, sums_by, window_sums}
use Rattle.rows.proofs.Each.{each_by}
use Rattle.rows.proofs.Walked.{each_over, each_each_over}

-- a part of what is walked is a walk of that part
module _ {S P : Type 0} (such : Bool → ℕ → Bool) (mark : ℕ → Bool) (f : S → ℕ → S) (g : P → ℕ → P) (part : S → P) (h : (s : S) (k : ℕ) → part (f s k) ≡ g (part s) k) where
  turn : (b : Bool) (s : S) (k : ℕ) → part (cond b (f s k) s) ≡ cond b (g (part s) k) (part s)
  turn true s k = h s k
  turn false s k = refl

  pub part_over : (s : S) (n : ℕ) → part (over such mark f s n) ≡ over such mark g (part s) n
  unfolding over
  part_over s zero = refl
  part_over s (suc n) = turn (such (mark n) (run mark n)) (over such mark f s n) n ∙ rw (part_over s n)

-- one number summed over the rows is added as often as there are rows
pub alike : (marks : List Bool) (x : Float) (n : ℕ) → sum_rows marks n (λ k. x) zero32 ≡ sum_to binary32 (λ k. x) (many_to is_row marks n)
unfolding sum_rows many_to sum_to
alike marks x n = sym (part_over is_row (mark_at marks) (λ (m k : ℕ). suc m) (λ (s : Float) (k : ℕ). add binary32 s x) (sum_to binary32 (λ k. x)) (λ m k. refl) 0 n)

abbrev pub sums_of : List (List Float) → List Float → Float → Sums
sums_of n p t = record { normal = n; projected = p; target_squared = t }

pub same_sums : (x y : Sums) → x.normal ≡ y.normal → x.projected ≡ y.projected → x.target_squared ≡ y.target_squared → x ≡ y
same_sums x y n p t =
    let e : x ≡ sums_of y.normal y.projected y.target_squared = rw (← n, ← p, ← t) in
    e

-- tick k's row, added
unfoldable pub add_row : List Float → List Float → ℕ → Sums → ℕ → Sums
add_row rates moments d s k = record {
  normal = each 6 (λ j column. each 6 (λ i x. add binary32 x (product (regressors rates moments d k) i j)) column) s.normal;
  projected = each 6 (λ i x. add binary32 x (projection (regressors rates moments d k) (target rates k) i)) s.projected;
  target_squared = add binary32 s.target_squared (mul binary32 (target rates k) (target rates k));
}

-- the row's terms and target as they stand in the code
pub row_added : (rates moments : List Float) (d k : ℕ) (s : Sums) {φ : List Float} {t : Float} {n : List (List Float)} {p : List Float} → φ ≡ regressors rates moments d k → t ≡ target rates k
    → n ≡ each 6 (λ j column. each 6 (λ i x. add binary32 x (mul binary32 (at φ j) (at φ i))) column) s.normal
    → p ≡ each 6 (λ i x. add binary32 x (mul binary32 t (at φ i))) s.projected
    → sums_of n p (add binary32 s.target_squared (mul binary32 t t)) ≡ add_row rates moments d s k
unfolding add_row product projection
row_added rates moments d k s {φ} {t} e f g h =
    let swapped : (y z x : Float) → add binary32 x (mul binary32 y z) ≡ add binary32 x (mul binary32 z y) = λ y z x. ap (add binary32 x) (commutes binary32 y z) in
    same_sums _ _
    (simp e at (g ∙ each_by 6 _ _ s.normal (λ j column. each_by 6 _ _ column (λ i x. swapped (at φ j) (at φ i) x))))
    (simp (e, f) at (h ∙ each_by 6 _ _ s.projected (λ i x. swapped t (at φ i) x)))
    (rw f)

module _ (rates moments : List Float) (marks : List Bool) (d : ℕ) (start : Sums) where
  abbrev walked : ℕ → Sums
  walked n = over is_row (mark_at marks) (add_row rates moments d) start n

  pub window_walk : (n : ℕ) → window_sums rates moments marks n d start ≡ walked n
  unfolding window_sums sums_by sum_rows add_row
  window_walk n =
      same_sums _ (walked n)
      (each_each_over is_row (mark_at marks) 6 (λ j. 6) (λ j i k. product (regressors rates moments d k) i j) start.normal n
      ∙ sym (part_over is_row (mark_at marks) (add_row rates moments d) _ (λ s. s.normal) (λ s k. refl) start n))
      (each_over is_row (mark_at marks) 6 (λ i x k. add binary32 x (projection (regressors rates moments d k) (target rates k) i)) start.projected n
      ∙ sym (part_over is_row (mark_at marks) (add_row rates moments d) _ (λ s. s.projected) (λ s k. refl) start n))
      (sym (part_over is_row (mark_at marks) (add_row rates moments d) _ (λ s. s.target_squared) (λ s k. refl) start n))
