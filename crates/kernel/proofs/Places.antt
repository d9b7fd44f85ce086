-- Once a lane has the sums of its series over all ticks, they solve to the fit of its step at its pole.
use Rattle.std.proofs.Common.{◌≡◌, ℕ, zero, suc, ◌+◌, ◌-◌, ◌*◌, ◌/◌, ◌%◌, List, refl, add-one, arith}
use lib.Ieee.{Float}
use Rattle.float.specs.Series.{at}
use Rattle.gain.specs.declared.FitInput.{FitInput}
use Rattle.gain.specs.declared.StepSums.{StepSums}
use Rattle.gain.specs.Gain.{first_tick, whole_ticks_of, is_half, felt, regressor, solved}
use Rattle.gain.specs.Prepared.{ticks_of, fit_of}
use Rattle.gain.proofs.Accumulators.{Running, start, next}
use Rattle.gain.proofs.Window.{solved_is}
use Rattle.kernel.specs.Kernel.{Sums, sums_on, no_sums, tick_series, tick_sums}

-- the three sums without m
abbrev three : Sums → StepSums
three s = record { mm = s.mm; mc = s.mc; mt = s.mt }

running : (carry : Float) (x c t : ℕ → Float) (n : ℕ) → Running carry x c t n (sums_on carry x c t no_sums n).m (three (sums_on carry x c t no_sums n))
unfolding sums_on
running carry x c t zero = start carry x c t
running carry x c t (suc n) = rw add-one at (next carry x c t n _ _ (x n) _ (three (sums_on carry x c t no_sums (suc n))) (running carry x c t n) refl refl refl refl refl)

-- the series of a lane is that of its step at its pole
step_series : (poles : List Float) (u : ℕ → Float) (q s : ℕ) → tick_series poles u (s / 2) (q * 2 + is_half s) ≡ regressor s (at poles q) u
step_series poles u q s =
    let a : (q * 2 + is_half s) % 2 ≡ is_half s = omega arith in
    let e : (q * 2 + is_half s) / 2 ≡ q = omega arith in
    let b : first_tick - s / 2 ≡ first_tick + 1 - whole_ticks_of s = omega arith in
    λ j. λ i. felt (at poles (e j)) u (a j) (b j + i)

pub step_fit : (i : FitInput) (poles : List Float) (q s : ℕ) (x : Sums) → x ≡ tick_sums i poles (s / 2) (q * 2 + is_half s) (ticks_of i.shared)
    → solved x.mm x.mc i.shared.cc x.mt i.shared.ct i.shared.tt ≡ fit_of i s (at poles q)
step_fit i poles q s x e =
    let w = i.shared in
    rw (e, ← (step_series poles (at i.moments.now) q s))
    (solved_is _ (at i.constants.now) (at i.changes.now) (three (tick_sums i poles (s / 2) (q * 2 + is_half s) (ticks_of w))) w (running w.carry _ (at i.constants.now) (at i.changes.now) (ticks_of w)).sums)
