-- Cholesky's factor L of a 6 by 6 matrix, and the two solves with it, in f32: 01, "Stand-ins for libm and nalgebra".
-- A matrix is the list of its six columns.
use Rattle.std.specs.Prelude.{ℕ, zero, suc, ◌+◌, ◌-◌, Bool, true, ◌&&◌, cond, List, [], replicate, get_or, set, ltb, eqb, Float}
use Rattle.std.specs.Float.{binary32}
use Rattle.std.specs.Float.Ieee.{add, sub, mul, div, neg, lt}
use Rattle.float.specs.Values.{zero32}
use Rattle.float.specs.Root.{rooted}
use Rattle.float.specs.Series.{at, fill}

-- the entry in row i and column k
abbrev pub entry_at : List (List Float) → ℕ → ℕ → Float
entry_at l i k = at (get_or l k []) i

-- "for k = 0..j-1, each entry (i, j), i >= j, becomes (-L(j,k))·L(i,k) + entry": what e has become once k is n
unfoldable pub reduced : List (List Float) → ℕ → ℕ → Float → ℕ → Float
reduced l i j e zero = e
reduced l i j e (suc k) = add binary32 (mul binary32 (neg (entry_at l j k)) (entry_at l i k)) (reduced l i j e k)

-- L(i, j), from the matrix a, the columns of L before j and d, which is L(j, j): below the diagonal "divided by it", above it 0
unfoldable pub factor_entry : List (List Float) → ℕ → ℕ → List (List Float) → Float → Float
factor_entry a i j l d = cond (ltb i j) zero32 (cond (eqb i j) d (div binary32 (reduced l i j (entry_at a i j) j) d))

-- column j of L, from its first row down: on the diagonal "its root"
abbrev pub factor_column : List (List Float) → ℕ → List (List Float) → List Float
factor_column a j l =
    let d = rooted (reduced l j j (entry_at a j j) j) in
    fill (λ i c. factor_entry a i j l d) (replicate 6 zero32) 6

-- L, column by column
unfoldable pub factor : List (List Float) → List (List Float)
factor a = fill (factor_column a) (replicate 6 (replicate 6 zero32)) 6

-- "A diagonal not above 0 (NaN too): no fit": the diagonals 0 to j - 1 are above 0 where their roots are taken
unfoldable pub above : List (List Float) → List (List Float) → ℕ → Bool
above a l zero = true
above a l (suc j) = above a l j && lt zero32 (reduced l j j (entry_at a j j) j)

-- e minus x(k)·y(k), k rising from 0 to n - 1, one at a time
unfoldable pub less : (ℕ → Float) → (ℕ → Float) → Float → ℕ → Float
less x y e zero = e
less x y e (suc k) = sub binary32 (less x y e k) (mul binary32 (x k) (y k))

-- "z(i) = b(i) minus L(i,k)·z(k), k rising, one at a time, over L(i,i)"
unfoldable pub forward_entry : List (List Float) → List Float → ℕ → List Float → Float
forward_entry l b i z = div binary32 (less (λ k. entry_at l i k) (λ k. at z k) (at b i) i) (entry_at l i i)

-- L z = b
unfoldable pub forward : List (List Float) → List Float → List Float
forward l b = fill (forward_entry l b) (replicate 6 zero32) 6

-- "s(i) = z(i) minus L(k,i)·s(k), k rising from i + 1, over L(i,i)"
unfoldable pub backward_entry : List (List Float) → List Float → ℕ → List Float → Float
backward_entry l z i s =
    div binary32 (less (λ k. entry_at l (i + 1 + k) i) (λ k. at s (i + 1 + k)) (at z i) (5 - i)) (entry_at l i i)

-- l with its entries 5, 4, .. set in turn, n of them, each by f from its place and the list as it then is
unfoldable pub fill_down : (ℕ → List Float → Float) → List Float → ℕ → List Float
fill_down f l zero = l
fill_down f l (suc n) = set (fill_down f l n) (5 - n) (f (5 - n) (fill_down f l n))

-- Lᵀ s = z, "i from 5 down"
unfoldable pub backward : List (List Float) → List Float → List Float
backward l z = fill_down (backward_entry l z) (replicate 6 zero32) 6
