-- Each delay's sums from those that the delays share. proofs/Same.antt shows that they are the sums of Rows, bit for bit.
use Rattle.std.specs.Prelude.{ℕ, ◌+◌, ◌-◌, cond, ltb, leb, List, [], get_or, replicate, Float}
use Rattle.float.specs.Values.{zero32}
use Rattle.float.specs.Series.{at, fill}
use Rattle.least_squares.specs.declared.Sums.{Sums}
use Rattle.shared_sums.specs.declared.SharedSums.{SharedSums}

-- entry b of list a
abbrev pub sum_at : List (List Float) → ℕ → ℕ → Float
sum_at sums a b = at (get_or sums a []) b

-- Σ of the products of two of a row's seven: places 0 to 3 are the common ones, 4 to 6 the moments k+1-d, k-d and k-1-d
unfoldable pub cross_sum : SharedSums → ℕ → ℕ → ℕ → Float
cross_sum s d a b =
    cond (ltb a 4)
    (cond (ltb b 4) (sum_at s.common a b) (sum_at s.lagged a (d - 1 + (b - 4))))
    (cond (ltb b 4) (sum_at s.lagged b (d - 1 + (a - 4)))
    (cond (leb a b) (sum_at s.pairs (b - a) (d - 1 + (a - 4))) (sum_at s.pairs (a - b) (d - 1 + (b - 4)))))

-- the place of each of the six terms; the target's is 3
unfoldable pub place_of : ℕ → ℕ
place_of i = cond (ltb i 2) i (cond (ltb i 5) (i + 2) 2)

-- the sums of each of the six terms times what stands at place b
unfoldable pub against : SharedSums → ℕ → ℕ → List Float
against s d b = fill (λ i l. cross_sum s d (place_of i) b) (replicate 6 zero32) 6

-- delay d's sums: those of its six terms by two, of each with the target, and of the target with itself
unfoldable pub delay_sums : SharedSums → ℕ → Sums
delay_sums s d = record {
  normal = fill (λ j l. against s d (place_of j)) (replicate 6 (replicate 6 zero32)) 6;
  projected = against s d 3;
  target_squared = cross_sum s d 3 3;
}
