-- The steps of the logarithm, each as the code makes it.
use Rattle.std.proofs.Common.{◌≡◌, ℕ, suc, ◌-◌, ◌*◌, ◌<◌, ◌≤◌, pos, refl, ap, arith}
use lib.Ieee.{Float, binary64, of_bits, of_int, add, mul, div}
use Rattle.float.specs.Values.{one64}
use Rattle.float.specs.Log.{log_sum}

pub sum_first : (q : Float) → div binary64 one64 (of_bits binary64 0x402e_0000_0000_0000) ≡ log_sum q 0
unfolding log_sum
sum_first q = ap (div binary64 one64) fifteen
  where
    fifteen : of_bits binary64 0x402e_0000_0000_0000 ≡ of_int binary64 (pos 15)
    fifteen = unfold of_bits of_int in refl

pub sum_next : (q last : Float) (k : ℕ) → 0 < k → k ≤ 7 → last ≡ log_sum q (7 - k) → add binary64 (div binary64 one64 (of_int binary64 (pos (2 * k - 1)))) (mul binary64 q last) ≡ log_sum q (7 - (k - 1))
unfolding log_sum
sum_next q last k p h e =
    let more : 7 - (k - 1) ≡ suc (7 - k) = omega arith in
    let divisor : 13 - 2 * (7 - k) ≡ 2 * k - 1 = omega arith in
    rw (more, divisor, e)
