-- Series of floats by place, sums in order, and lists that are filled entry by entry. What stands past the end of a list reads as NaN.
use Rattle.std.specs.Prelude.{ℕ, zero, suc, List, from_bits, slice_index_or, slice_set, Float}
use Rattle.std.specs.Float.{Format, nan}
use Rattle.std.specs.Float.Ieee.{add, mul}

-- a list as a series
abbrev pub at : List Float → ℕ → Float
at l k = slice_index_or l k nan

-- f(0) + .. + f(n - 1), added left to right from +0, in either format
unfoldable pub sum_to : Format → (ℕ → Float) → ℕ → Float
sum_to p f zero = from_bits p 0
sum_to p f (suc n) = add p (sum_to p f n) (f n)

-- the sum of the products of two series, each product rounded and then added
abbrev pub dot_to : Format → (ℕ → Float) → (ℕ → Float) → ℕ → Float
dot_to p f g n = sum_to p (λ i. mul p (f i) (g i)) n

-- l with its entries 0, 1, .., n - 1 set in turn, each by f from its place and the list as it then is
unfoldable pub fill : {A : Type 0} → (ℕ → List A → A) → List A → ℕ → List A
fill f l zero = l
fill f l (suc n) = slice_set (fill f l n) n (f n (fill f l n))
