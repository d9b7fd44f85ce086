-- The running values of six lanes side by side, in the middle of a tick: the lanes below h have its values in them, the others not yet. Lane j goes on from entry j of s.
use Prim.Native.Nat.{ℕ, ◌+◌, ◌≤◌, ◌<◌}
use mathlib.Core.Path.{◌≡◌, refl}
use mathlib.Core.List.{List}
use mathlib.Core.Logic.{⊎_elim}
use native.Mathlib.Nat.{eq-or-lt_of_le, le_of_suc-le-suc}
use native.Mathlib.Numerals.{add-one}
use native.Mathlib.Omega.{arith}
use lib.ListN.{length, set, length-set}
use lib.Seq.{get_or-set_same, get_or-set_other}
use lib.Ieee.{Float, nan, binary64, add, mul}
use Rattle.float.specs.Series.{at}
use Rattle.lanes.specs.Lanes.{lane_count}
use Rattle.kernel.specs.Kernel.{Sums, one_on, sums_at}

module _ (carry : Float) (x : ℕ → Float) (c t : Float) (s : ℕ → Sums) where
  pub record Lanes (h : ℕ) (m mm mc mt : List Float) : Type 0 where
    pub long : length m ≡ lane_count
    pub long_mm : length mm ≡ lane_count
    pub long_mc : length mc ≡ lane_count
    pub long_mt : length mt ≡ lane_count
    pub done : (j : ℕ) → j < h → sums_at m mm mc mt j ≡ one_on carry (x j) c t (s j)
    pub left : (j : ℕ) → h ≤ j → j < lane_count → sums_at m mm mc mt j ≡ s j

  module _ (h : ℕ) (m mm mc mt : List Float) where
    abbrev new : Float
    new = add binary64 (mul binary64 carry (at m h)) (x h)

    abbrev plus : List Float → Float → List Float
    plus l y = set l h (add binary64 (at l h) (mul binary64 new y))

    -- lane h takes its value in
    pub turn : Lanes h m mm mc mt → h < lane_count → Lanes (h + 1) (set m h new) (plus mm new) (plus mc c) (plus mt t)
    turn l p = record {
      long = rw length-set l.long;
      long_mm = rw length-set l.long_mm;
      long_mc = rw length-set l.long_mc;
      long_mt = rw length-set l.long_mt;
      done = λ j q. ⊎_elim (λ (z : j ≡ h). rw z here) (λ (z : j < h). rw (← (l.done j z)) (other j (λ (y : j ≡ h). omega arith))) (eq-or-lt_of_le (le_of_suc-le-suc (rw add-one at q)));
      left = λ j q r. rw (← (l.left j (omega arith) r)) (other j (λ (y : j ≡ h). omega arith));
    }
      where
        here : sums_at (set m h new) (plus mm new) (plus mc c) (plus mt t) h ≡ one_on carry (x h) c t (s h)
        here =
            rw (
              get_or-set_same m h new nan (rw l.long p),
              get_or-set_same mm h (add binary64 (at mm h) (mul binary64 new new)) nan (rw l.long_mm p),
              get_or-set_same mc h (add binary64 (at mc h) (mul binary64 new c)) nan (rw l.long_mc p),
              get_or-set_same mt h (add binary64 (at mt h) (mul binary64 new t)) nan (rw l.long_mt p),
              ← (l.left h (omega arith) p),
            )
            refl

        other : (j : ℕ) → (j ≡ h → ⊥) → sums_at (set m h new) (plus mm new) (plus mc c) (plus mt t) j ≡ sums_at m mm mc mt j
        other j n =
            rw (
              get_or-set_other m h j new nan n,
              get_or-set_other mm h j (add binary64 (at mm h) (mul binary64 new new)) nan n,
              get_or-set_other mc h j (add binary64 (at mc h) (mul binary64 new c)) nan n,
              get_or-set_other mt h j (add binary64 (at mt h) (mul binary64 new t)) nan n,
            )
            refl
