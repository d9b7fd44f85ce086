-- The first residual at most the bar, by the library's word for the first place that passes a test: place by place the two stop or go on alike.
use Prim.Native.Nat.{ℕ, suc, ◌+◌}
use mathlib.Core.Path.{◌≡◌, refl, ◌∙◌, ap}
use mathlib.Core.Bool.{Bool, true, false, cond}
use mathlib.Core.List.{List, [], ◌∷◌}
use native.Mathlib.Omega.{arith}
use lib.Ieee.{Float}
use lib.ListN.{length, get_or}
use Rattle.std.specs.Prelude.{Option, Some, None, position}
use Rattle.std.specs.Option.{option_map}
use Rattle.std.specs.List.{position_from}
use Rattle.std.proofs.lemmas.Iterator.Adapters.{position_from-zero}
use Rattle.delay.specs.declared.Entry.{Entry}
use Rattle.delay.specs.Tie.{considered, residuals, within, passes, here, first_from}

module _ (all : Bool) (bar : Float) (r : ℕ → Option Float) where
  turn : (b c : Bool) (i : ℕ) (q rest : Option ℕ) → b ≡ c → option_map (λ k. k + 1) q ≡ rest → option_map (λ k. k + 1) (cond b (Some i) q) ≡ here c i rest
  turn true true i q rest d e = refl
  turn false false i q rest d e = e
  turn true false i q rest d e = absurd (cc)
  turn false true i q rest d e = absurd (cc)

  from_place : (i : ℕ) (xs : List (Option Entry)) → ((k j : ℕ) → j ≡ i + k → r j ≡ considered all (get_or xs k None))
      → option_map (λ k. k + 1) (position_from (passes all bar) i xs) ≡ first_from bar r i (length xs)
  unfolding first_from
  from_place i [] h = refl
  from_place i (x ∷ xs) h =
      let e : r i ≡ considered all x = h 0 i (omega arith) in
      turn (passes all bar x) (within bar (r i)) i (position_from (passes all bar) (i + 1) xs) (first_from bar r (i + 1) (length xs)) (ap (within bar) (cc))
      (from_place (i + 1) xs (λ k j p. h (suc k) j (omega arith)))

pub first : (all : Bool) (bar : Float) (entries : List (Option Entry)) (n : ℕ) → length entries ≡ n
    → option_map (λ k. k + 1) (position (passes all bar) entries) ≡ first_from bar (residuals all entries) 0 n
unfolding residuals
first all bar entries n e =
    ap (option_map (λ k. k + 1)) (position_from-zero (passes all bar) entries)
    ∙ from_place all bar (residuals all entries) 0 entries (λ k j p. let q : j ≡ k = omega arith in rw q refl)
    ∙ ap (first_from bar (residuals all entries) 0) e
