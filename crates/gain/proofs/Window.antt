-- The fit that the code makes is the definition's, once a window is prepared: the kept sums are those of the series, and the series are the window's.
use Rattle.std.proofs.Common.{◌≡◌, ℕ, ◌+◌, ◌-◌, ◌≤◌, List, length, refl, ◌∙◌, arith}
use lib.Ieee.{Float, nan, binary32, sub}
use Rattle.float.specs.Values.{one64}
use Rattle.float.specs.Series.{at}
use Rattle.gain.specs.declared.Shared.{Shared}
use Rattle.gain.specs.declared.StepSums.{StepSums}
use Rattle.gain.specs.Gain.{first_tick, whole_ticks_of, is_half, change, through, solved, fitted, gain_fit}
use Rattle.gain.specs.Prepared.{series, most_ticks, ticks_of, fitted_with, fit_with, Summed, Totals, Prepared}
use Rattle.float.proofs.Fill.{filled}
use Rattle.gain.proofs.Below.{Agree, through_same, felt_same, fitted_same}

-- what solve makes of a step's sums and of the kept ones
pub solved_is : (m c t : ℕ → Float) (s : StepSums) (w : Shared) → Summed m c t (ticks_of w) s
    → solved s.mm s.mc w.cc s.mt w.ct w.tt ≡ fitted_with w m c t
unfolding fitted_with
solved_is m c t s w h = rw (h.squares, h.constants, h.targets) refl

-- where the kept sums are those of the two series, it is the fit of all three
with_totals : (m c t : ℕ → Float) (w : Shared) → w.ticks ≤ most_ticks → Totals c t w → fitted_with w m c t ≡ fitted m c t w.ticks
unfolding fitted_with fitted
with_totals m c t w h o = let e : ticks_of w ≡ w.ticks = omega arith in rw (e, o.constants, o.both, o.targets) refl

-- with the two leaky series prepared, it is the window's gain fit
pub fit_of_window : (carry : Float) (u rate : ℕ → Float) (n : ℕ) (cs₀ ts₀ cs ts : List Float) (w : Shared) → n ≤ most_ticks → n ≤ length cs₀ → n ≤ length ts₀
    → Prepared carry rate n cs₀ ts₀ cs ts w → (s : ℕ) (pole : Float) → fit_with w u (at cs) (at ts) s pole ≡ gain_fit carry u rate n s pole
unfolding gain_fit
fit_of_window carry u rate n cs₀ ts₀ cs ts w h hc ht p s pole =
    with_totals _ (at cs) (at ts) w (rw p.counts h) p.totals
    ∙ rw (p.keeps, p.counts)
    (fitted_same _ _ _ _ _ _ n (λ i q. refl)
    (λ i q. rw p.constants (filled (series (through carry (λ i. one64))) cs₀ nan n i hc q))
    (λ i q. rw p.changes (filled (series (through carry (change rate))) ts₀ nan n i ht q)))

-- a gain fit of n ticks reads the rates and the moments below tick n + 11 alone
pub gain_same : (carry : Float) (u v rate rate' : ℕ → Float) (n s : ℕ) (pole : Float) → Agree u v (n + first_tick) → Agree rate rate' (n + first_tick)
    → gain_fit carry u rate n s pole ≡ gain_fit carry v rate' n s pole
unfolding gain_fit
gain_same carry u v rate rate' n s pole h k =
    fitted_same _ _ _ _ _ _ n
    (through_same carry _ _ n (λ i p. felt_same pole u v (n + first_tick) (is_half s) (first_tick + 1 - whole_ticks_of s + i) h (omega arith)))
    (λ i p. refl)
    (through_same carry _ _ n (λ i p. λ j. sub binary32 (k (first_tick + i) (omega arith) j) (k (first_tick - 1 + i) (omega arith) j)))
