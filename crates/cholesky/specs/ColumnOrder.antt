-- Cholesky in place, in the order of 01's text: 01, "Stand-ins for libm and nalgebra". `factored` and `diagonals_above_zero` ensure it.
-- A matrix here is a function of row and column, of which the lower triangle counts.
use Rattle.std.specs.Prelude.{ℕ, zero, suc, ◌<◌, ◌≤◌, ◌≡◌, Bool, true, ◌&&◌, cond, List, ltb, leb, eqb, Float}
use Rattle.std.specs.Float.{binary32}
use Rattle.std.specs.Float.Ieee.{add, mul, div, neg, lt}
use Rattle.float.specs.Values.{zero32}
use Rattle.float.specs.Root.{rooted}
use Rattle.cholesky.specs.Cholesky.{entry_at, factor, above}

abbrev pub Matrix : Type 0
Matrix = ℕ → ℕ → Float

-- "each entry (i, j), i >= j, becomes (-L(j,k))·L(i,k) + entry"
unfoldable pub less_column : ℕ → ℕ → Matrix → Matrix
less_column j k m i c = cond (eqb c j && leb j i) (add binary32 (mul binary32 (neg (m j k)) (m i k)) (m i j)) (m i c)

-- "for k = 0..j-1": what column j has become once k is n
unfoldable pub less_columns : ℕ → Matrix → ℕ → Matrix
less_columns j m zero = m
less_columns j m (suc k) = less_column j k (less_columns j m k)

-- "its root, and the entries below divided by it"
unfoldable pub rooted_column : ℕ → Matrix → Matrix
rooted_column j m i c =
    cond (eqb c j && eqb i j) (rooted (m j j)) (cond (eqb c j && ltb j i) (div binary32 (m i j) (rooted (m j j))) (m i c))

-- "for column j": the matrix once the columns before j are done
unfoldable pub columns_done : Matrix → ℕ → Matrix
columns_done a zero = a
columns_done a (suc j) = rooted_column j (less_columns j (columns_done a j) j)

-- the diagonal of column j where it is tested: "A diagonal not above 0 (NaN too): no fit"
unfoldable pub tested_diagonal : Matrix → ℕ → Float
tested_diagonal a j = less_columns j (columns_done a j) j j j

-- whether the diagonals of the columns 0 to n - 1 are above 0 where they are tested
unfoldable pub tested_above : Matrix → ℕ → Bool
tested_above a zero = true
tested_above a (suc j) = tested_above a j && lt zero32 (tested_diagonal a j)

-- l is L as the definition by entries has it, and at and below the diagonal it is what the columns in order leave
pub record Factored (a l : List (List Float)) : Type 0 where
  pub by_entry : l ≡ factor a
  pub in_order : (i j : ℕ) → i < 6 → j ≤ i → entry_at l i j ≡ columns_done (entry_at a) 6 i j

-- ok says whether the diagonals are above 0 by L's entries, and, where l is L, by the columns in order
pub record Tested (a l : List (List Float)) (ok : Bool) : Type 0 where
  pub by_entry : ok ≡ above a l 6
  pub in_order : l ≡ factor a → ok ≡ tested_above (entry_at a) 6
