-- What the fields of an f64 narrow to.
use Rattle.std.proofs.Common.{◌≡◌, ℕ, zero, suc, ◌+◌, ◌-◌, ◌*◌, ◌/◌, ◌^◌, Bool, not, T, refl, ap, ◌∙◌, add_comm, lit<, pow_pos}
use lib.Count.{count_trailing_zeros}
use lib.Ieee.{nan, inf, binary32, binary64, odd, round, up, down, minus, of_fields, is_nan}
use lib.Ieee.Digits.{odd_val}
use lib.Ieee.Fits.{down_pos}
use lib.Ieee.Scale.{round_same}
use Rattle.float.specs.Narrow.{narrowed}
use Rattle.float.proofs.Fields.{subnormal, normal, infinite}

narrowed_odd : (d : ℕ) (s : Bool) (q k l : ℕ) → narrowed (odd d s q k l) ≡ round binary32 s (q * 2 ^ k) (2 ^ l)
unfolding narrowed odd
narrowed_odd d s zero k l = round_same binary32 s (0 * 1) 1 (0 * 2 ^ k) (2 ^ l) (lit< tt) (pow_pos l) (odd_val d s zero k l)
narrowed_odd d s (suc q) k l =
    let t = count_trailing_zeros d (suc q) in
    let e = minus (k + t) l in
    round_same binary32 s (suc q / 2 ^ t * up e) (down e) (suc q * 2 ^ k) (2 ^ l) (down_pos e) (pow_pos l) (odd_val d s (suc q) k l)

narrowed_inf : (s : Bool) → narrowed (inf s) ≡ inf s
unfolding narrowed
narrowed_inf s = refl

pub narrowed_nan : narrowed nan ≡ nan
unfolding narrowed
narrowed_nan = refl

pub narrow_subnormal : (s : Bool) (x t : ℕ) → x ≡ 0 → narrowed (of_fields binary64 s x t) ≡ round binary32 s (t * 2 ^ 0) (2 ^ 1074)
narrow_subnormal s x t e = ap narrowed (subnormal binary64 s x t e) ∙ narrowed_odd 53 s t 0 1074

pub narrow_normal : (s : Bool) (x t : ℕ) → (x ≡ 0 → ⊥) → (x ≡ 2047 → ⊥) → narrowed (of_fields binary64 s x t) ≡ round binary32 s ((t + 2 ^ 52) * 2 ^ (x - 1)) (2 ^ 1074)
narrow_normal s x t p n =
    ap narrowed (normal binary64 s x t p n)
    ∙ narrowed_odd 53 s (2 ^ 52 + t) (x - 1) 1074
    ∙ ap (λ (m : ℕ). round binary32 s (m * 2 ^ (x - 1)) (2 ^ 1074)) (add_comm (2 ^ 52) t)

pub narrow_infinite : (s : Bool) (x t : ℕ) → x ≡ 2047 → T (not (is_nan (of_fields binary64 s x t))) → narrowed (of_fields binary64 s x t) ≡ inf s
narrow_infinite s x t e n = ap narrowed (infinite binary64 s x t e n) ∙ narrowed_inf s
