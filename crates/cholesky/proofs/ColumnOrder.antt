-- In the order of 01's text, in place and column by column, Cholesky gives the L of `factor`, and tests the same diagonals.
-- What is done of a column is `reduced`, and the columns before it are L's.
use Prim.Native.Nat.{ℕ, zero, suc, ◌≤◌, ◌<◌}
use mathlib.Core.Path.{◌≡◌, refl, sym, ◌∙◌}
use mathlib.Core.Bool.{Bool}
use mathlib.Core.Logic.{⊎_elim}
use mathlib.Core.List.{List}
use native.Mathlib.Nat.{eq-or-lt_of_le}
use native.Mathlib.Omega.{arith}
use borrow.Author.Tests.{lt-ltb, le-leb, eq-eqb, ne_eqb}
use lib.Ieee.{Float}
use Rattle.cholesky.specs.Cholesky.{entry_at, reduced, factor, above}
use Rattle.cholesky.specs.ColumnOrder.{Matrix, less_column, less_columns, rooted_column, columns_done, tested_diagonal, tested_above, Factored, Tested}
use Rattle.cholesky.proofs.Textbook.{on_diagonal, below_diagonal}

-- another column is left as it is
other : (j : ℕ) (m : Matrix) (k i c : ℕ) → (c ≡ j → ⊥) → less_columns j m k i c ≡ m i c
unfolding less_columns less_column
other j m zero i c h = refl
other j m (suc k) i c h = rw (ne_eqb c j h) (other j m k i c h)

module _ (a : List (List Float)) where
  -- a column that is not begun is the matrix's
  left : (j i c : ℕ) → j ≤ c → columns_done (entry_at a) j i c ≡ entry_at a i c
  unfolding columns_done rooted_column
  left zero i c h = refl
  left (suc j) i c h =
      let n : c ≡ j → ⊥ = λ e. omega arith in
      let l : j ≤ c = omega arith in
      rw (ne_eqb c j n, other j (columns_done (entry_at a) j) j i c n) (left j i c l)

  -- the columns before j are L's
  abbrev Done : ℕ → Type 0
  Done j = (i c : ℕ) → i < 6 → c < j → c ≤ i → columns_done (entry_at a) j i c ≡ entry_at (factor a) i c

  own : (j : ℕ) → j < 6 → Done j → (i k : ℕ) → i < 6 → j ≤ i → k ≤ j → less_columns j (columns_done (entry_at a) j) k i j ≡ reduced (factor a) i j (entry_at a i j) k
  unfolding less_columns less_column reduced
  own j q d i zero p g h = let l : j ≤ j = omega arith in left j i j l
  own j q d i (suc k) p g h =
      let n : k ≡ j → ⊥ = λ e. omega arith in
      let m = columns_done (entry_at a) j in
      let x : k < j = omega arith in
      let y : k ≤ j = omega arith in
      let z : k ≤ i = omega arith in
      rw (
        eq-eqb j j refl,
        le-leb j i g,
        other j m k j k n,
        other j m k i k n,
        d j k q x y,
        d i k p x z,
        own j q d i k p g y,
      )

  one_more : (j : ℕ) → j < 6 → Done j → Done (suc j)
  unfolding columns_done rooted_column
  one_more j q d i c p h g =
      let l : c ≤ j = omega arith in
      let s : j ≤ j = omega arith in
      ⊎_elim
      (λ (e : c ≡ j).
      let t : j ≤ i = omega arith in
      let col : columns_done (entry_at a) (suc j) i j ≡ entry_at (factor a) i j =
      ⊎_elim
      (λ (f : j ≡ i).
      rw (← f, eq-eqb j j refl, own j q d j j q s s) (sym (on_diagonal a j j q q refl)))
      (λ (f : j < i).
      rw (eq-eqb j j refl, ne_eqb i j (λ o. omega arith), lt-ltb j i f, own j q d i j p t s, own j q d j j q s s, ← on_diagonal a j j q q refl)
      (sym (below_diagonal a i j p q f)))
      (eq-or-lt_of_le t) in
      rw e col)
      (λ (e : c < j).
      let n : c ≡ j → ⊥ = λ o. omega arith in
      rw (ne_eqb c j n, other j (columns_done (entry_at a) j) j i c n) (d i c p e g))
      (eq-or-lt_of_le l)

  done : (j : ℕ) → j ≤ 6 → Done j
  done zero h i c p o g = absurd (omega arith)
  done (suc j) h i c p o g = let t : j ≤ 6 = omega arith in one_more j h (done j t) i c p o g

  column_order : (i j : ℕ) → i < 6 → j ≤ i → columns_done (entry_at a) 6 i j ≡ entry_at (factor a) i j
  column_order i j p g = done 6 (omega arith) i j p (omega arith) g

  tested : (j : ℕ) → j < 6 → tested_diagonal (entry_at a) j ≡ reduced (factor a) j j (entry_at a j j) j
  unfolding tested_diagonal
  tested j q =
      let l : j ≤ 6 = omega arith in
      let s : j ≤ j = omega arith in
      own j q (done j l) j j q s s

  above_tested : (n : ℕ) → n ≤ 6 → above a (factor a) n ≡ tested_above (entry_at a) n
  unfolding above tested_above
  above_tested zero h = refl
  above_tested (suc n) h = let l : n ≤ 6 = omega arith in rw (above_tested n l, tested n h)

-- what the two functions ensure
pub in_order : (a l : List (List Float)) → l ≡ factor a → Factored a l
in_order a l e = record { by_entry = e; in_order = λ i j p g. rw e (sym (column_order a i j p g)) }

pub tested_in_order : (a l : List (List Float)) (ok : Bool) → ok ≡ above a l 6 → Tested a l ok
tested_in_order a l ok e = record { by_entry = e; in_order = λ f. e ∙ rw f (above_tested a 6 (omega arith)) }
