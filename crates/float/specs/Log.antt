-- logf, worked out in f64: 02, "Lag and push in plain units".
use Rattle.std.specs.Prelude.{ℕ, zero, suc, ◌-◌, ◌*◌, ◌^◌, Bool, true, false, ℤ, pos, ◌+ℤ◌, from_bits, nat_le, Float}
use Rattle.std.proofs.Math.IntN.{pred_ℤ}
use Rattle.std.specs.Float.{nan, inf, fin, binary64}
use Rattle.std.specs.Float.Ieee.{of_int, size, round, add, sub, mul, div}
use Rattle.float.specs.Values.{one64}
use Rattle.float.specs.Narrow.{narrowed}

-- 0.6931471805599453 and 2
abbrev pub ln2 : Float
ln2 = from_bits binary64 0x3fe6_2e42_fefa_39ef

abbrev pub two64 : Float
two64 = from_bits binary64 0x4000_0000_0000_0000

-- "The sum starts at 1/15 and becomes 1/n + q·(last) for n = 13, 11 and so on down to 1": after j of the seven, so that the next n is 13 - 2·j
unfoldable pub log_sum : Float → ℕ → Float
log_sum q zero = div binary64 one64 (of_int binary64 (pos 15))
log_sum q (suc j) = add binary64 (div binary64 one64 (of_int binary64 (pos (13 - 2 * j)))) (mul binary64 q (log_sum q j))

-- "z = (m - 1)/(m + 1)"
unfoldable pub z_of : Float → Float
z_of m = div binary64 (sub binary64 m one64) (add binary64 m one64)

-- "2·z·sum", with "q = z·z"
unfoldable pub log_part : Float → Float
log_part z = mul binary64 (mul binary64 two64 z) (log_sum (mul binary64 z z) 7)

-- "k·0.6931471805599453 + 2·z·sum"
unfoldable pub log_from : (m k : Float) → Float
log_from m k = add binary64 (mul binary64 k ln2) (log_part (z_of m))

-- n · 2^e, n having b digits, "as m times 2 to the k with m from 0.75 up to but not including 1.5": n / 2^b is from 0.5 up to 1,
-- and is m where it is 0.75 or more; else m is twice that. An f64 holds m exactly.
unfoldable pub log_split : Bool → ℕ → ℤ → ℕ → Float
log_split true n e b = log_from (round binary64 false n (2 ^ b)) (of_int binary64 (e +ℤ pos b))
log_split false n e b = log_from (round binary64 false (2 * n) (2 ^ b)) (of_int binary64 (pred_ℤ (e +ℤ pos b)))

unfoldable pub log_at : ℕ → ℤ → Float
log_at n e = let b = size n in log_split (nat_le (3 * 2 ^ b) (4 * n)) n e b

-- Outside the positive finite values: -infinity of either zero, NaN below, infinity of infinity.
unfoldable pub wide_log : Float → Float
wide_log nan = nan
wide_log (inf true) = nan
wide_log (inf false) = inf false
wide_log (fin s zero e) = inf true
wide_log (fin true (suc n) e) = nan
wide_log (fin false (suc n) e) = log_at (suc n) e

-- "narrowed"
unfoldable pub log_of : Float → Float
log_of x = narrowed (wide_log x)
