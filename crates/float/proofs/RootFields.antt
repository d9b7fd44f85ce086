-- What the fields of an f32 say of its square root.
use Rattle.std.proofs.Common.{◌≡◌, ℕ, zero, suc, ◌+◌, ◌-◌, ◌*◌, ◌/◌, ◌^◌, ◌<◌, min, Bool, true, false, cond, not, T, ℤ, pos, sym, refl, ap, ◌∙◌, ⊎_elim, mul_assoc, eq-zero-or-pos, add_comm, mul_right_comm, mul-div_cancel, arith, pow-add}
use lib.Count.{count_trailing_zeros}
use lib.Dec.{eqb-suc-zero}
use lib.Ieee.{Float, nan, inf, fin, binary32, odd, up, down, minus, of_fields, of_bits, to_bits, is_nan, fits}
use lib.Ieee.Digits.{odd_val}
use lib.Ieee.Fits.{down_pos}
use Rattle.float.specs.Root.{root_of, rooted}
use Rattle.float.proofs.Fields.{subnormal, normal}
use Rattle.float.proofs.Signs.{at_infinity, nan_below}

-- ---- `rooted` sees only the value
squared : (a d M K : ℕ) → 0 < d → a * 2 ^ 149 ≡ M * 2 ^ K * d → a * 2 ^ 298 / d ≡ M * 2 ^ (K + 149)
squared a d M K p h =
    ap (λ (x : ℕ). x / d)
    (ap (λ (x : ℕ). a * x) (pow-add 2 149 149)
    ∙ sym (mul_assoc a (2 ^ 149) (2 ^ 149))
    ∙ ap (λ (x : ℕ). x * 2 ^ 149) h
    ∙ mul_right_comm (M * 2 ^ K) d (2 ^ 149)
    ∙ ap (λ (x : ℕ). x * d) (mul_assoc M (2 ^ K) (2 ^ 149) ∙ ap (λ (x : ℕ). M * x) (sym (pow-add 2 K 149))))
    ∙ mul-div_cancel (M * 2 ^ (K + 149)) p

rooted_fin : (m : ℕ) (e : ℤ) → rooted (fin false m e) ≡ root_of (m * up e * 2 ^ 298 / down e)
unfolding rooted
rooted_fin m e = refl

pub rooted_odd : (d q k : ℕ) → rooted (odd d false q k 149) ≡ root_of (q * 2 ^ (k + 149))
unfolding odd
rooted_odd d zero k = rooted_fin 0 (pos 0) ∙ ap root_of (squared (0 * 1) 1 0 k (down_pos (pos 0)) (odd_val d false zero k 149))
rooted_odd d (suc q) k =
    let t = count_trailing_zeros d (suc q) in
    let e = minus (k + t) 149 in
    rooted_fin (suc q / 2 ^ t) e ∙ ap root_of (squared (suc q / 2 ^ t * up e) (down e) (suc q) k (down_pos e) (odd_val d false (suc q) k 149))

-- ---- above zero
root_subnormal : (x t : ℕ) → x ≡ 0 → rooted (of_fields binary32 false x t) ≡ root_of (t * 2 ^ 149)
root_subnormal x t e = ap rooted (subnormal binary32 false x t e) ∙ rooted_odd 24 t 0

root_normal : (x t : ℕ) → (x ≡ 0 → ⊥) → (x ≡ 255 → ⊥) → rooted (of_fields binary32 false x t) ≡ root_of ((t + 2 ^ 23) * 2 ^ (x + 148))
root_normal x t p n =
    ap rooted (normal binary32 false x t p n)
    ∙ rooted_odd 24 (2 ^ 23 + t) (x - 1)
    ∙ ap (λ (z : ℕ). root_of (z * 2 ^ (x - 1 + 149))) (add_comm (2 ^ 23) t)
    ∙ ap (λ (z : ℕ). root_of ((t + 2 ^ 23) * 2 ^ z)) (let r : x - 1 + 149 ≡ x + 148 = omega arith in r)

-- both, with the hidden digit h
pub root_finite : (x t h : ℕ) → h ≡ min x 1 → (x ≡ 255 → ⊥) → rooted (of_fields binary32 false x t) ≡ root_of ((t + h * 2 ^ 23) * 2 ^ (x + 149 - h))
root_finite x t h e n =
    ⊎_elim (λ (z : x ≡ 0). root_subnormal x t z ∙ at t 149 (omega (arith, e)) (omega (arith, e)))
    (λ (z : 0 < x). root_normal x t (λ i. omega arith) n ∙ at (t + 2 ^ 23) (x + 148) (omega (arith, e)) (omega (arith, e)))
    (eq-zero-or-pos x)
  where
    at : (m k : ℕ) → m ≡ t + h * 2 ^ 23 → k ≡ x + 149 - h → root_of (m * 2 ^ k) ≡ root_of ((t + h * 2 ^ 23) * 2 ^ (x + 149 - h))
    at m k i j = ap (λ (z : ℕ). root_of (z * 2 ^ k)) i ∙ ap (λ (z : ℕ). root_of ((t + h * 2 ^ 23) * 2 ^ z)) j

rooted_inf : rooted (inf false) ≡ inf false
unfolding rooted
rooted_inf = refl

pub root_infinite : (x t : ℕ) → x ≡ 255 → T (not (is_nan (of_fields binary32 false x t))) → of_fields binary32 false x t ≡ rooted (of_fields binary32 false x t)
root_infinite = at_infinity rooted rooted_inf

-- ---- NaN, -0 and what is below
pub rooted_nan : rooted nan ≡ nan
unfolding rooted
rooted_nan = refl

pub minus_zero : of_bits binary32 (2 ^ 31) ≡ rooted (of_bits binary32 (2 ^ 31))
unfolding rooted of_bits
minus_zero = refl

root_negative : (m : ℕ) (e : ℤ) → rooted (fin true (suc m) e) ≡ nan
unfolding rooted
root_negative m e = ap (λ (b : Bool). cond b (fin true (suc m) e) nan) (eqb-suc-zero m)

rooted_minus_inf : rooted (inf true) ≡ nan
unfolding rooted
rooted_minus_inf = refl

pub below_zero : (x : Float) → T (fits binary32 x) → 2 ^ 31 < to_bits binary32 x → rooted x ≡ nan
below_zero = nan_below rooted rooted_nan rooted_minus_inf root_negative
