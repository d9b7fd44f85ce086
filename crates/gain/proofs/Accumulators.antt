-- One step's accumulators in a kernel's loop: m and the three sums that it is in, at the start and after a turn. Every kernel's invariant is made of these.
use Rattle.std.proofs.Common.{◌≡◌, ℕ, ◌+◌, refl, add-one}
use lib.Ieee.{Float, binary64, add, mul}
use Rattle.float.specs.Values.{zero64}
use Rattle.float.specs.Series.{sum_to}
use Rattle.gain.specs.declared.StepSums.{StepSums}
use Rattle.gain.specs.Gain.{leaky, through}
use Rattle.gain.specs.Prepared.{Summed}

pub record Running (carry : Float) (x c t : ℕ → Float) (i : ℕ) (m : Float) (s : StepSums) : Type 0 where
  pub carried : m ≡ leaky carry x i
  pub sums : Summed (through carry x) c t i s

pub start : (carry : Float) (x c t : ℕ → Float) → Running carry x c t 0 zero64 (record { mm = zero64; mc = zero64; mt = zero64 })
unfolding leaky sum_to
start carry x c t = record { carried = refl; sums = record { squares = refl; constants = refl; targets = refl } }

pub next : (carry : Float) (x c t : ℕ → Float) (i : ℕ) (m : Float) (s : StepSums) (v l : Float) (r : StepSums) → Running carry x c t i m s → v ≡ x i → l ≡ add binary64 (mul binary64 carry m) v
    → r.mm ≡ add binary64 s.mm (mul binary64 l l) → r.mc ≡ add binary64 s.mc (mul binary64 l (c i)) → r.mt ≡ add binary64 s.mt (mul binary64 l (t i)) → Running carry x c t (i + 1) l r
unfolding leaky sum_to
next carry x c t i m s v l r h e on mm mc mt =
    let now : l ≡ leaky carry x (i + 1) = rw (add-one, on, e, h.carried) refl in
    record {
      carried = now;
      sums = record {
        squares = rw (mm, now, h.sums.squares, add-one) refl;
        constants = rw (mc, now, h.sums.constants, add-one) refl;
        targets = rw (mt, now, h.sums.targets, add-one) refl;
      };
    }
