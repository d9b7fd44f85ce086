-- The grid's rule over any series of candidates: the kept one has the least residual, and is the first that has it; none is kept only where none has a fit.
use Prim.Native.Nat.{ℕ, zero, suc, ◌<◌}
use mathlib.Core.Path.{◌≡◌, refl, sym, subst}
use mathlib.Core.Bool.{Bool, true, false}
use mathlib.Core.Logic.{⊎_elim}
use native.Mathlib.Nat.{eq-or-lt_of_le, le_of_suc-le-suc}
use native.Mathlib.Omega.{arith}
use lib.Ieee.{lt}
use Rattle.std.specs.Prelude.{Option, Some, None}
use Rattle.grid.specs.declared.LagFit.{LagFit}
use Rattle.grid.specs.Grid.{better_of, keep_of, kept_to, pick_lag, KeepsFirst}
use Rattle.grid.proofs.Order.{lt_self, not_below, not_at_most}

module _ (f : ℕ → Option LagFit) (n : ℕ) where
  -- what holds of each place below n, and of n, holds of each below the next
  more : {P : ℕ → Type 0} → ((i : ℕ) → i < n → P i) → P n → (i : ℕ) → i < suc n → P i
  more {P} h z i p = ⊎_elim (λ (q : i ≡ n). subst (λ (j : ℕ). P j) (sym q) z) (λ (q : i < n). h i q) (eq-or-lt_of_le (le_of_suc-le-suc p))

  step : (k x : Option LagFit) → KeepsFirst f n k → f n ≡ x → KeepsFirst f (suc n) (keep_of k x)
  unfolding keep_of better_of
  step None None h e = more {P = λ i. f i ≡ None} h e
  step (Some a) None h e = record {
    place = h.place;
    inside = omega (arith, h.inside);
    is = h.is;
    least = λ i z p q. more {P = λ i. f i ≡ Some z → lt z.fit.residual a.fit.residual ≡ false} (λ i p q. h.least i z p q) (λ q. cc) i p q;
    first = h.first;
  }
  step None (Some b) h e = record {
    place = n;
    inside = omega arith;
    is = e;
    least = λ i z p q. more {P = λ i. f i ≡ Some z → lt z.fit.residual b.fit.residual ≡ false} (λ i p q. let w = h i p in cc) (λ q. let w : z ≡ b = cc in rw w (lt_self b.fit.residual)) i p q;
    first = λ i z p q. let w = h i p in cc;
  }
  step (Some a) (Some b) h e = go (lt b.fit.residual a.fit.residual) refl
    where
      go : (t : Bool) → lt b.fit.residual a.fit.residual ≡ t → KeepsFirst f (suc n) (Some (pick_lag t b a))
      go true g = record {
        place = n;
        inside = omega arith;
        is = e;
        least = λ i z p q. more {P = λ i. f i ≡ Some z → lt z.fit.residual b.fit.residual ≡ false}
            (λ i p q. not_below z.fit.residual b.fit.residual a.fit.residual (h.least i z p q) g) (λ q. let w : z ≡ b = cc in rw w (lt_self b.fit.residual)) i p q;
        first = λ i z p q. not_at_most z.fit.residual b.fit.residual a.fit.residual (h.least i z p q) g;
      }
      go false g = record {
        place = h.place;
        inside = omega (arith, h.inside);
        is = h.is;
        least = λ i z p q. more {P = λ i. f i ≡ Some z → lt z.fit.residual a.fit.residual ≡ false} (λ i p q. h.least i z p q) (λ q. let w : z ≡ b = cc in rw w g) i p q;
        first = h.first;
      }

pub keeps_first : (f : ℕ → Option LagFit) (n : ℕ) → KeepsFirst f n (kept_to f n)
unfolding kept_to
keeps_first f zero = λ i p. absurd (omega arith)
keeps_first f (suc n) = step f n (kept_to f n) (f n) (keeps_first f n) refl
