-- The refinement, a golden-section search between the ends of a bracket: 01, "The integrated fit and its refinement".
use Rattle.std.specs.Prelude.{ℕ, zero, suc, Bool, true, false, Float, Option, Some, None}
use Rattle.std.specs.Float.{binary32}
use Rattle.std.specs.Float.Ieee.{add, sub, mul, lt, of_bits}
use Rattle.gain.specs.declared.GainFit.{GainFit}
use Rattle.grid.specs.declared.LagFit.{LagFit}
use Rattle.grid.specs.Grid.{lag_fit, better_of}
use Rattle.golden.specs.declared.Refined.{Refined}

-- 0.618034
abbrev pub golden32 : Float
golden32 = of_bits binary32 0x3f1e_377a

-- "left = high - 0.618034·(high - low), right = low + 0.618034·(high - low)"
abbrev pub left_of : (low high : Float) → Float
left_of low high = sub binary32 high (mul binary32 golden32 (sub binary32 high low))

abbrev pub right_of : (low high : Float) → Float
right_of low high = add binary32 low (mul binary32 golden32 (sub binary32 high low))

-- what a round leaves: the end of the search, or the next bracket and the best so far
pub data Round : Type 0 where
  over : Round
  on : (low high : Float) → LagFit → Round

abbrev pub pick_round : Bool → Round → Round → Round
pick_round true a b = a
pick_round false a b = b

-- "the round in which either trial has no fit ends the search. Left strictly smaller: high = right, keep left; else low = left, keep right."
-- "A kept one strictly below the best replaces it."
unfoldable pub tried : (low high : Float) → LagFit → Option GainFit → Option GainFit → Round
tried low high best None r = over
tried low high best (Some l) None = over
tried low high best (Some l) (Some r) =
    pick_round (lt l.residual r.residual)
    (on low (right_of low high) (better_of best (lag_fit (record { pole = left_of low high; low = low; high = high }) l)))
    (on (left_of low high) high (better_of best (lag_fit (record { pole = right_of low high; low = low; high = high }) r)))

-- what follows a round: the rest of the search, or its end
abbrev pub onward : Round → ((low high : Float) → LagFit → Refined) → Refined → Refined
onward over go end = end
onward (on low high best) go end = go low high best

-- at most n rounds more between low and high, with the best so far and the rounds made: the best candidate and all rounds made
unfoldable pub golden : (Float → Option GainFit) → ℕ → (low high : Float) → LagFit → ℕ → Refined
golden fit zero low high best made = record { best = best; rounds = made }
golden fit (suc n) low high best made =
    onward (tried low high best (fit (left_of low high)) (fit (right_of low high)))
    (λ l h b. golden fit n l h b (suc made))
    (record { best = best; rounds = suc made })

-- "Refinement, at most 12 rounds"
abbrev pub max_rounds : ℕ
max_rounds = 12

-- a candidate refined between its own ends
unfoldable pub refined : (Float → Option GainFit) → LagFit → Refined
refined fit b = golden fit max_rounds b.bracket.low b.bracket.high b 0
