-- The recursions of `specs/Exp.antt`, a step at a time, as the loops take it.
use Rattle.std.proofs.Common.{◌≡◌, ℕ, suc, ◌+◌, ◌-◌, ◌<◌, ◌≤◌, true, false, pos, negsuc, refl, ap, arith}
use lib.Ieee.{Float, binary64, of_bits, of_int, neg, add, mul, div, lt}
use Rattle.float.specs.Values.{zero32, one64}
use Rattle.float.specs.Narrow.{narrowed}
use Rattle.float.specs.Exp.{horner, squared, exp_of}

pub horner_first : (t : Float) → one64 ≡ horner t 0
unfolding horner
horner_first t = refl

pub horner_next : (t last : Float) (n : ℕ) → 0 < n → n ≤ 8 → last ≡ horner t (8 - n) → add binary64 one64 (mul binary64 (div binary64 t (of_int binary64 (pos n))) last) ≡ horner t (8 - (n - 1))
unfolding horner
horner_next t last n p h e =
    let more : 8 - (n - 1) ≡ suc (8 - n) = omega arith in
    let left : 8 - (8 - n) ≡ n = omega arith in
    rw (more, left, e)

pub squared_next : (x : Float) (n k : ℕ) → k < n → squared (n - (k + 1)) (mul binary64 x x) ≡ squared (n - k) x
unfolding squared
squared_next x n k h = ap (λ (j : ℕ). squared j x) (let r : suc (n - (k + 1)) ≡ n - k = omega arith in r)

pub squared_done : (x : Float) (n k : ℕ) → n - k ≡ 0 → squared (n - k) x ≡ x
unfolding squared
squared_done x n k e = ap (λ (j : ℕ). squared j x) e

-- ---- the constants -104 and 1024, as the code writes them
limit : neg (of_bits binary64 0x405a_0000_0000_0000) ≡ of_int binary64 (negsuc 103)
unfolding neg of_bits of_int
limit = refl

scale : of_bits binary64 0x4090_0000_0000_0000 ≡ of_int binary64 (pos 1024)
unfolding of_bits of_int
scale = refl

pub exp_below : (x : Float) → lt x (neg (of_bits binary64 0x405a_0000_0000_0000)) ≡ true → zero32 ≡ exp_of x
unfolding exp_of
exp_below x h = rw (← limit, h)

pub exp_above : (x : Float) → lt x (neg (of_bits binary64 0x405a_0000_0000_0000)) ≡ false → narrowed (squared 10 (horner (div binary64 x (of_bits binary64 0x4090_0000_0000_0000)) 8)) ≡ exp_of x
unfolding exp_of
exp_above x h = rw (← limit, ← scale, h)
