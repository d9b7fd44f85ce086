-- What the bits of a value say, in either format: its sign, its exponent's field x and its digits t.
use Rattle.std.proofs.Common.{◌≡◌, ℕ, zero, suc, ◌+◌, ◌-◌, ◌/◌, ◌%◌, Bool, true, false, cond, not, T, eqb, leb, sym, refl, ap, ◌∙◌, subst, arith, eqb→eq}
use lib.Dec.{not_T}
use lib.Ieee.{Float, Format, nan, inf, prec, low, hid, ones, top, odd, of_fields, of_bits, to_bits, is_nan, fits}
use lib.Ieee.Fits.{eq→eqb}
use lib.Ieee.Bits.{of_bits-to_bits, cond_no, is_true}

pub by_fields : (f : Format) (b : ℕ) → of_bits f b ≡ of_fields f (leb (top f) b) (b % top f / hid f) (b % hid f)
unfolding of_bits
by_fields f b = refl

-- a value is what its own bits say
pub own : (f : Format) (x : Float) → T (fits f x) → x ≡ of_fields f (leb (top f) (to_bits f x)) (to_bits f x % top f / hid f) (to_bits f x % hid f)
own f x h = sym (of_bits-to_bits f x h) ∙ by_fields f (to_bits f x)

-- the lowest field: a subnormal
pub subnormal : (f : Format) (s : Bool) (x t : ℕ) → x ≡ 0 → of_fields f s x t ≡ odd (prec f) s t 0 (low f)
unfolding of_fields
subnormal f s x t e = ap (λ (z : ℕ). of_fields f s z t) e

-- a field between
pub normal : (f : Format) (s : Bool) (x t : ℕ) → (x ≡ 0 → ⊥) → (x ≡ ones f → ⊥) → of_fields f s x t ≡ odd (prec f) s (hid f + t) (x - 1) (low f)
unfolding of_fields
normal f s zero t p n = absurd (p refl)
normal f s (suc x) t p n =
    cond_no (eqb (suc x) (ones f)) (cond (eqb t 0) (inf s) nan) (odd (prec f) s (hid f + t) x (low f)) (not_T (eqb (suc x) (ones f)) (λ u. n (eqb→eq (suc x) (ones f) u)))
    ∙ ap (λ (z : ℕ). odd (prec f) s (hid f + t) z (low f)) (less x)
  where
    less : (x : ℕ) → x ≡ suc x - 1
    less x = omega arith

-- the highest field, where it is no NaN's: an infinity
pub infinite : (f : Format) (s : Bool) (x t : ℕ) → x ≡ ones f → T (not (is_nan (of_fields f s x t))) → of_fields f s x t ≡ inf s
unfolding of_fields is_nan
infinite f s zero t e n = absurd (none f e)
  where
    none : (f : Format) → 0 ≡ ones f → ⊥
    none f e = omega arith
infinite f s (suc x) t e n =
    let y : of_fields f s (suc x) t ≡ cond (eqb t 0) (inf s) nan = ap (λ (b : Bool). cond b (cond (eqb t 0) (inf s) nan) (odd (prec f) s (hid f + t) x (low f))) (is_true (eqb (suc x) (ones f)) (eq→eqb e)) in
    y ∙ pick (eqb t 0) (subst (λ (v : Float). T (not (is_nan v))) y n)
  where
    pick : (b : Bool) → T (not (is_nan (cond b (inf s) nan))) → cond b (inf s) nan ≡ inf s
    pick true n = refl
    pick false n = absurd n
