-- The sums over a window's rows that the delays share. A row's moments at delay d stand d - 1, d and d + 1 ticks back, so that
-- one sum serves several delays.
use Rattle.std.specs.Prelude.{ℕ, ◌+◌, ◌-◌, Bool, List, [], ◌∷◌, replicate, Float}
use Rattle.std.specs.Float.{binary32}
use Rattle.std.specs.Float.Ieee.{sub, mul}
use Rattle.float.specs.Values.{zero32, one32}
use Rattle.float.specs.Series.{at, fill}
use Rattle.window.specs.Walk.{is_row}
use Rattle.window.specs.Arrays.{many_to}
use Rattle.rows.specs.Rows.{target, each, sum_rows}
use Rattle.shared_sums.specs.declared.SharedSums.{SharedSums}

-- what tick k's row has whatever the delay: rate(k-1), rate(k-1) - rate(k-2), 1, and the target
unfoldable pub common_terms : List Float → ℕ → List Float
common_terms rates k = at rates (k - 1) ∷ sub binary32 (at rates (k - 1)) (at rates (k - 2)) ∷ one32 ∷ target rates k ∷ []

-- the moments of that row: the one j ticks back, for j from 0 to 11
unfoldable pub last_moments : List Float → ℕ → List Float
last_moments moments k = fill (λ j l. at moments (k - j)) (replicate 12 zero32) 12

-- m lists of w entries; entry b of list a, b below n(a), is the sum of f(a, b) over the rows among a window's first len ticks, and the others +0
unfoldable pub summed : List Bool → ℕ → (m w : ℕ) → (ℕ → ℕ) → (ℕ → ℕ → ℕ → Float) → List (List Float)
summed marks len m w n f = each m (λ a l. each (n a) (λ b s. sum_rows marks len (f a b) s) l) (replicate m (replicate w zero32))

-- the products of two common terms, those of a common term and a moment, and those of two moments that stand o ticks apart, summed,
-- and how many rows there are
unfoldable pub shared_sums : List Float → List Float → List Bool → ℕ → SharedSums
shared_sums rates moments marks len =
    let terms = common_terms rates in
    let last = last_moments moments in
    record {
      common = summed marks len 4 4 (λ a. 4) (λ a b k. mul binary32 (at (terms k) a) (at (terms k) b));
      lagged = summed marks len 4 12 (λ a. 12) (λ a j k. mul binary32 (at (terms k) a) (at (last k) j));
      pairs = summed marks len 3 12 (λ o. 12 - o) (λ o j k. mul binary32 (at (last k) j) (at (last k) (j + o)));
      rows = many_to is_row marks len;
    }
