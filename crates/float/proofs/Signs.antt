-- Rounding keeps a sign. What the sign's bit of an f32's pattern says, and what a function that keeps infinity, or gives NaN below 0, makes of such a pattern.
use Rattle.std.proofs.Common.{◌≡◌, ℕ, zero, suc, ◌+◌, ◌-◌, ◌*◌, ◌/◌, ◌%◌, ◌^◌, ◌<◌, ◌≤◌, Bool, true, false, cond, not, T, eqb, ltb, leb, ℤ, sym, refl, ap, ◌∙◌, subst, true≢false, lt_irrefl, zero-mul, arith, le→leb}
use native.Mathlib.Nat.{div-eq_of_lt}
use lib.Arith.{lt→nleb}
use lib.Ieee.{Float, Format, nan, inf, fin, binary32, prec, emax, low, odd, units, round, size, up, down, of_fields, of_bits, to_bits, is_nan, fits}
use lib.Ieee.Fits.{down_pos, round_is}
use lib.Ieee.Order.{kept, drop}
use lib.Ieee.Bits.{of_bits-to_bits, is_true, is_false}
use Rattle.float.proofs.Fields.{own, by_fields, infinite}

-- ---- rounding keeps the sign of what is no NaN
abbrev pub Signed : Bool → Float → Type 0
Signed s nan = ⊥
Signed s (inf t) = t ≡ s
Signed s (fin t m e) = t ≡ s

odd_signed : (d : ℕ) (s : Bool) (q k l : ℕ) → Signed s (odd d s q k l)
unfolding odd
odd_signed d s zero k l = refl
odd_signed d s (suc q) k l = refl

units_signed : (f : Format) (s : Bool) (q k : ℕ) → Signed s (units f s q k)
unfolding units
units_signed f s q k = go (ltb (q * 2 ^ k) (2 ^ (low f + suc (emax f))))
  where
    go : (b : Bool) → Signed s (cond b (odd (suc (prec f)) s q k (low f)) (inf s))
    go true = odd_signed (suc (prec f)) s q k (low f)
    go false = refl

pub round_signed : (f : Format) (s : Bool) (a c : ℕ) → Signed s (round f s a c)
round_signed f s a c = subst (Signed s) (sym (round_is f s a c)) (units_signed f s (kept (prec f) (a * 2 ^ low f) c) (drop (prec f) (a * 2 ^ low f) c))

-- ---- a pattern below the sign's bit
pub unsigned : (b : ℕ) → b < 2 ^ 31 → of_bits binary32 b ≡ of_fields binary32 false (b % 2 ^ 31 / 2 ^ 23) (b % 2 ^ 23)
unsigned b h = by_fields binary32 b ∙ ap (λ (z : Bool). of_fields binary32 z (b % 2 ^ 31 / 2 ^ 23) (b % 2 ^ 23)) (is_false (leb (2 ^ 31) b) (lt→nleb (2 ^ 31) b h))

pub plain : (x : Float) → T (fits binary32 x) → to_bits binary32 x ≤ 2 ^ 31 → (to_bits binary32 x ≡ 2 ^ 31 → ⊥) → x ≡ of_fields binary32 false (to_bits binary32 x % 2 ^ 31 / 2 ^ 23) (to_bits binary32 x % 2 ^ 23)
plain x f l n = sym (of_bits-to_bits binary32 x f) ∙ unsigned (to_bits binary32 x) (omega arith)

unfoldable pub sign : Float → Bool
sign nan = true
sign (inf s) = s
sign (fin s m e) = s

pub sign_fields : (x t : ℕ) → sign (of_fields binary32 true x t) ≡ true
unfolding of_fields sign odd
sign_fields zero zero = refl
sign_fields zero (suc t) = refl
sign_fields (suc x) t = go (eqb (suc x) 255) (eqb t 0) (2 ^ 23 + t)
  where
    go : (a b : Bool) (q : ℕ) → sign (cond a (cond b (inf true) nan) (odd 24 true q x 149)) ≡ true
    go true true q = refl
    go true false q = refl
    go false b zero = refl
    go false b (suc q) = refl

zero_bits : (e : ℤ) → to_bits binary32 (fin true 0 e) ≡ 2 ^ 31
unfolding to_bits
zero_bits e =
    ap (λ (n : ℕ). 2 ^ 31 + (size n - 24) * 2 ^ 23 + n / 2 ^ (size n - 24)) (ap (λ (y : ℕ). y * 2 ^ 149 / down e) (zero-mul (up e)) ∙ div-eq_of_lt (down_pos e))
    ∙ none
  where
    none : 2 ^ 31 + (size 0 - 24) * 2 ^ 23 + 0 / 2 ^ (size 0 - 24) ≡ 2 ^ 31
    none = unfold size in refl

-- a pattern above -0's
negative : (x : Float) → T (fits binary32 x) → 2 ^ 31 < to_bits binary32 x → sign x ≡ true
negative x f h =
    let b = to_bits binary32 x in
    let s : leb (2 ^ 31) b ≡ true = is_true (leb (2 ^ 31) b) (le→leb (2 ^ 31) b (omega arith)) in
    ap sign (own binary32 x f)
    ∙ ap (λ (z : Bool). sign (of_fields binary32 z (b % 2 ^ 31 / 2 ^ 23) (b % 2 ^ 23))) s
    ∙ sign_fields (b % 2 ^ 31 / 2 ^ 23) (b % 2 ^ 23)

-- ---- a function g

-- that keeps infinity
pub at_infinity : (g : Float → Float) → g (inf false) ≡ inf false → (x t : ℕ) → x ≡ 255 → T (not (is_nan (of_fields binary32 false x t))) → of_fields binary32 false x t ≡ g (of_fields binary32 false x t)
at_infinity g k x t e n = let i = infinite binary32 false x t e n in i ∙ sym (ap g i ∙ k)

-- that gives NaN of NaN and of every value below 0
module _ (g : Float → Float) (of_nan : g nan ≡ nan) (of_inf : g (inf true) ≡ nan) (of-fin : (m : ℕ) (e : ℤ) → g (fin true (suc m) e) ≡ nan) where
  signed : (x : Float) → 2 ^ 31 < to_bits binary32 x → sign x ≡ true → g x ≡ nan
  unfolding sign
  signed nan h e = of_nan
  signed (inf true) h e = of_inf
  signed (inf false) h e = absurd (true≢false (sym e))
  signed (fin false m k) h e = absurd (true≢false (sym e))
  signed (fin true zero k) h e = absurd (lt_irrefl (2 ^ 31) (subst (λ (b : ℕ). 2 ^ 31 < b) (zero_bits k) h))
  signed (fin true (suc m) k) h e = of-fin m k

  pub nan_below : (x : Float) → T (fits binary32 x) → 2 ^ 31 < to_bits binary32 x → g x ≡ nan
  nan_below x f h = signed x h (negative x f h)
