-- Sums, leaky sums, lagged moments and fits read their series below a place alone: series that agree there give the same.
use Rattle.std.proofs.Common.{◌≡◌, ℕ, zero, suc, ◌<◌, refl, arith}
use lib.Ieee.{Float, Format, binary32, binary64, add, sub, mul}
use Rattle.float.specs.Values.{one32}
use Rattle.float.specs.Series.{sum_to, dot_to}
use Rattle.lags.specs.Lags.{lag_to}
use Rattle.gain.specs.declared.Shared.{Shared}
use Rattle.gain.specs.Prepared.{ticks_of, fitted_with}
use Rattle.gain.specs.Gain.{blend, felt, leaky, through, solved, fitted}

-- f and g agree on the first n places
abbrev pub Agree : (f g : ℕ → Float) → ℕ → Type 0
Agree f g n = (i : ℕ) → i < n → f i ≡ g i

pub sum_same : (p : Format) (f g : ℕ → Float) (n : ℕ) → Agree f g n → sum_to p f n ≡ sum_to p g n
unfolding sum_to
sum_same p f g zero h = refl
sum_same p f g (suc n) h = λ i. add p (sum_same p f g n (λ j q. h j (omega arith)) i) (h n (omega arith) i)

pub dot_same : (p : Format) (f f' g g' : ℕ → Float) (n : ℕ) → Agree f f' n → Agree g g' n → dot_to p f g n ≡ dot_to p f' g' n
dot_same p f f' g g' n h k = sum_same p _ _ n (λ j q. λ i. mul p (h j q i) (k j q i))

leaky_same : (c : Float) (f g : ℕ → Float) (n : ℕ) → Agree f g n → leaky c f n ≡ leaky c g n
unfolding leaky
leaky_same c f g zero h = refl
leaky_same c f g (suc n) h = λ i. add binary64 (mul binary64 c (leaky_same c f g n (λ j q. h j (omega arith)) i)) (h n (omega arith) i)

pub through_same : (c : Float) (f g : ℕ → Float) (n : ℕ) → Agree f g n → Agree (through c f) (through c g) n
through_same c f g n h i p = leaky_same c f g (suc i) (λ j q. h j (omega arith))

lag_same : (pole : Float) (u v : ℕ → Float) (n : ℕ) → Agree u v n → lag_to pole u n ≡ lag_to pole v n
unfolding lag_to
lag_same pole u v zero h = refl
lag_same pole u v (suc n) h =
    λ i. add binary32 (mul binary32 pole (lag_same pole u v n (λ j q. h j (omega arith)) i)) (mul binary32 (sub binary32 one32 pole) (h n (omega arith) i))

pub felt_same : (pole : Float) (u v : ℕ → Float) (n h j : ℕ) → Agree u v n → j < n → felt pole u h j ≡ felt pole v h j
unfolding felt
felt_same pole u v n h j e p =
    λ i. blend h (lag_same pole u v (suc j) (λ k q. e k (omega arith)) i) (lag_same pole u v j (λ k q. e k (omega arith)) i)

pub fitted_same : (m m' c c' t t' : ℕ → Float) (n : ℕ) → Agree m m' n → Agree c c' n → Agree t t' n → fitted m c t n ≡ fitted m' c' t' n
unfolding fitted
fitted_same m m' c c' t t' n p q r =
    λ i. solved (dot_same binary64 m m' m m' n p p i) (dot_same binary64 m m' c c' n p q i) (dot_same binary64 c c' c c' n q q i)
    (dot_same binary64 m m' t t' n p r i) (dot_same binary64 c c' t t' n q r i) (dot_same binary64 t t' t t' n r r i)

pub with_same : (w : Shared) (m m' c t : ℕ → Float) → Agree m m' (ticks_of w) → fitted_with w m c t ≡ fitted_with w m' c t
unfolding fitted_with
with_same w m m' c t p =
    λ i. solved (dot_same binary64 m m' m m' (ticks_of w) p p i) (dot_same binary64 m m' c c (ticks_of w) p (λ k q. refl) i) w.cc
    (dot_same binary64 m m' t t (ticks_of w) p (λ k q. refl) i) w.ct w.tt
