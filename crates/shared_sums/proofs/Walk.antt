-- The shared sums, each of which is walked by itself, are one walk that adds a row to all of them.
use Prim.Native.Nat.{ℕ, suc, ◌+◌, ◌-◌}
use mathlib.Core.Path.{◌≡◌, refl, sym, ◌∙◌}
use mathlib.Core.Bool.{Bool}
use mathlib.Core.List.{List}
use native.Mathlib.Numerals.{add-one}
use lib.ListN.{replicate}
use lib.Ieee.{Float, binary32, add, mul}
use Rattle.float.specs.Values.{zero32}
use Rattle.float.specs.Series.{at}
use Rattle.window.specs.Walk.{over, mark_at, is_row}
use Rattle.window.specs.Arrays.{many_to}
use Rattle.rows.specs.Rows.{each, sum_rows}
use Rattle.rows.proofs.Walked.{adds, each_each_over}
use Rattle.rows.proofs.Together.{part_over}
use Rattle.shared_sums.specs.declared.SharedSums.{SharedSums}
use Rattle.shared_sums.specs.Shared.{common_terms, last_moments, summed, shared_sums}

abbrev pub shared_of : List (List Float) → List (List Float) → List (List Float) → ℕ → SharedSums
shared_of c l p n = record { common = c; lagged = l; pairs = p; rows = n }

-- what the sums are before the first row
abbrev pub no_shared : SharedSums
no_shared = shared_of (replicate 4 (replicate 4 zero32)) (replicate 4 (replicate 12 zero32)) (replicate 3 (replicate 12 zero32)) 0

same_shared : (x y : SharedSums) → x.common ≡ y.common → x.lagged ≡ y.lagged → x.pairs ≡ y.pairs → x.rows ≡ y.rows → x ≡ y
same_shared x y c l p n =
    let e : x ≡ shared_of y.common y.lagged y.pairs y.rows = rw (← c, ← l, ← p, ← n) in
    e

-- products of the entries of two lists, and of one list's entries that stand o places apart, added to their sums
abbrev pub products : ℕ → ℕ → List Float → List Float → List (List Float) → List (List Float)
products m n x y s = each m (λ a l. each n (λ b z. add binary32 z (mul binary32 (at x a) (at y b))) l) s

abbrev pub pairs : List Float → List (List Float) → List (List Float)
pairs x s = each 3 (λ o l. each (12 - o) (λ j z. add binary32 z (mul binary32 (at x j) (at x (j + o)))) l) s

module _ (rates moments : List Float) where
  -- tick k's row, added
  unfoldable pub add_shared : SharedSums → ℕ → SharedSums
  add_shared s k =
      let φ = common_terms rates k in
      let x = last_moments moments k in
      shared_of (products 4 4 φ φ s.common) (products 4 12 φ x s.lagged) (pairs x s.pairs) (suc s.rows)

  -- the row as it stands in the code
  pub shared_added : (s : SharedSums) (k : ℕ) {φ x : List Float} {c l p : List (List Float)} → φ ≡ common_terms rates k → x ≡ last_moments moments k
      → c ≡ products 4 4 φ φ s.common → l ≡ products 4 12 φ x s.lagged → p ≡ pairs x s.pairs
      → shared_of c l p (s.rows + 1) ≡ add_shared s k
  unfolding add_shared
  shared_added s k e d f g h = same_shared _ _ (simp e at f) (simp (e, d) at g) (simp d at h) (add-one s.rows)

  module _ (marks : List Bool) (len : ℕ) where
    abbrev walked : SharedSums
    walked = over is_row (mark_at marks) add_shared no_shared len

    -- a table of sums is walked by itself
    table_walk : (part : SharedSums → List (List Float)) (m w : ℕ) (n : ℕ → ℕ) (f : ℕ → ℕ → ℕ → Float) → part no_shared ≡ replicate m (replicate w zero32)
        → ((s : SharedSums) (k : ℕ) → part (add_shared s k) ≡ each m (λ a l. adds (n a) (f a) l k) (part s)) → summed marks len m w n f ≡ part walked
    unfolding summed sum_rows
    table_walk part m w n f e h =
        each_each_over is_row (mark_at marks) m n f (replicate m (replicate w zero32)) len
        ∙ sym (rw e at (part_over is_row (mark_at marks) add_shared (λ s k. each m (λ a l. adds (n a) (f a) l k) s) part h no_shared len))

    pub shared_walk : shared_sums rates moments marks len ≡ walked
    unfolding shared_sums many_to add_shared
    shared_walk =
        same_shared _ walked
        (table_walk (λ s. s.common) 4 4 _ _ refl (λ s k. refl))
        (table_walk (λ s. s.lagged) 4 12 _ _ refl (λ s k. refl))
        (table_walk (λ s. s.pairs) 3 12 _ _ refl (λ s k. refl))
        (sym (part_over is_row (mark_at marks) add_shared _ (λ s. s.rows) (λ s k. refl) no_shared len))
