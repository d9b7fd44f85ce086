-- The bit pattern of q * 2 ^ k smallest values of binary32 is k * 2 ^ 23 + q, and the infinity's from there on.
use Rattle.std.proofs.Common.{◌≡◌, ℕ, zero, suc, ◌+◌, ◌-◌, ◌*◌, ◌/◌, ◌^◌, ◌<◌, ◌≤◌, min, Bool, true, false, cond, T, ltb, ◌⊎◌, sym, refl, ap, ◌∙◌, subst, inl, inr, ⊎_elim, le_trans, le_of_eq, lt_of_lt_of_le, lt_of_le_of_lt, add_assoc, mul-le-mul_right, eq-or-lt_of_le, mul-one, mul-div_cancel, arith, lit<, lit≤, lt→ltb, pow_pos, pow_mono, pow-add, shl_lt}
use lib.Arith.{le→nltb}
use lib.Ieee.{Float, nan, inf, fin, binary32, up, down, size, odd, units, is_nan, fits, of_bits, to_bits, nan_bits}
use lib.Ieee.Digits.{size-le}
use lib.Ieee.Exact.{HasValue, units_val}
use lib.Ieee.Fits.{odd-fits, inf-fits, down_pos}
use lib.Ieee.Bits.{of_bits-to_bits, nan_bits_is, cond_no, is_true}
use Rattle.float.proofs.Digits.{size_is}
use Rattle.std.proofs.lemmas.Bool.{cases_lt}

-- ---- the fields of n smallest values
fields : ℕ → ℕ
fields n = (size n - 24) * 0x80_0000 + n / 2 ^ (size n - 24)

fields_at : (n k q : ℕ) → size n - 24 ≡ k → n ≡ q * 2 ^ k → fields n ≡ k * 0x80_0000 + q
unfolding fields
fields_at n k q e h =
    ap (λ (x : ℕ). x * 0x80_0000 + n / 2 ^ x) e ∙ ap (λ (x : ℕ). k * 0x80_0000 + x) (ap (λ (x : ℕ). x / 2 ^ k) h ∙ mul-div_cancel q (pow_pos k))

-- q has fewer digits than the format keeps
few : (q : ℕ) → q < 2 ^ 24 → fields (q * 2 ^ 0) ≡ 0 * 0x80_0000 + q
few q h =
    let s : size (q * 2 ^ 0) ≤ 24 = size-le (q * 2 ^ 0) 24 (subst (λ (x : ℕ). x < 2 ^ 24) (sym (mul-one q)) h) in
    fields_at (q * 2 ^ 0) 0 q (omega arith) refl

-- as many
all : (q k : ℕ) → 2 ^ 23 ≤ q → q < 2 ^ 24 → fields (q * 2 ^ k) ≡ k * 0x80_0000 + q
all q k lo hi =
    let s : size (q * 2 ^ k) ≡ 23 + k + 1 =
    size_is (q * 2 ^ k) (23 + k) (subst (λ (x : ℕ). x ≤ q * 2 ^ k) (sym (pow-add 2 23 k)) (mul-le-mul_right (2 ^ k) lo))
    (subst (λ (x : ℕ). q * 2 ^ k < 2 ^ x) (swap k) (shl_lt 24 k hi)) in
    fields_at (q * 2 ^ k) k q (omega arith) refl
  where
    swap : (k : ℕ) → 24 + k ≡ 23 + k + 1
    swap k = omega arith

-- one more: the carry
more : (q k : ℕ) → q ≡ 2 ^ 24 → fields (q * 2 ^ k) ≡ k * 0x80_0000 + q
more q k e =
    ap (λ (x : ℕ). fields (x * 2 ^ k)) e
    ∙ ap fields up_one
    ∙ all (2 ^ 23) (k + 1) (lit≤ tt) (lit< tt)
    ∙ same k
    ∙ ap (λ (x : ℕ). k * 0x80_0000 + x) (sym e)
  where
    up_one : 2 ^ 24 * 2 ^ k ≡ 2 ^ 23 * 2 ^ (k + 1)
    up_one = sym (pow-add 2 24 k) ∙ ap (λ (x : ℕ). 2 ^ x) (by k) ∙ pow-add 2 23 (k + 1)
      where
        by : (k : ℕ) → 24 + k ≡ 23 + (k + 1)
        by k = omega arith

    same : (k : ℕ) → (k + 1) * 0x80_0000 + 2 ^ 23 ≡ k * 0x80_0000 + 2 ^ 24
    same k = omega arith

fields_of : (q k : ℕ) → q ≤ 2 ^ 24 → (k ≡ 0) ⊎ (2 ^ 23 ≤ q) → fields (q * 2 ^ k) ≡ k * 0x80_0000 + q
fields_of q k h w =
    ⊎_elim (λ (e : q ≡ 2 ^ 24). more q k e)
    (λ (l : q < 2 ^ 24).
    ⊎_elim (λ (z : k ≡ 0). subst (λ (x : ℕ). fields (q * 2 ^ x) ≡ x * 0x80_0000 + q) (sym z) (few q l))
    (λ (g : 2 ^ 23 ≤ q). all q k g l)
    w)
    (eq-or-lt_of_le h)

-- ---- the pattern of a value of a smallest ones
pattern_of : (x : Float) (s : Bool) (a : ℕ) → HasValue x s a (2 ^ 149) → to_bits binary32 x ≡ cond s (2 ^ 31) 0 + fields a
unfolding to_bits fields
pattern_of nan s a v = absurd v
pattern_of (inf t) s a v = absurd v
pattern_of (fin t m e) s a v =
    let n : m * up e * 2 ^ 149 / down e ≡ a = ap (λ (x : ℕ). x / down e) v.1 ∙ mul-div_cancel a (down_pos e) in
    ap (λ (b : Bool). cond b (2 ^ 31) 0 + (size (m * up e * 2 ^ 149 / down e) - 24) * 0x80_0000 + m * up e * 2 ^ 149 / down e / 2 ^ (size (m * up e * 2 ^ 149 / down e) - 24)) v.0
    ∙ ap (λ (x : ℕ). cond s (2 ^ 31) 0 + (size x - 24) * 0x80_0000 + x / 2 ^ (size x - 24)) n
    ∙ add_assoc (cond s (2 ^ 31) 0) ((size a - 24) * 0x80_0000) (a / 2 ^ (size a - 24))

-- ---- finite below the infinity's pattern, and infinite from it on
in_range : (q k : ℕ) → q ≤ 2 ^ 24 → (k ≡ 0) ⊎ (2 ^ 23 ≤ q) → k * 0x80_0000 + q < 0x7f80_0000 → q * 2 ^ k < 2 ^ 277
in_range q k h w l =
    ⊎_elim (λ (z : k ≡ 0). subst (λ (x : ℕ). q * 2 ^ x < 2 ^ 277) (sym z) (lt_of_le_of_lt (le_of_eq (mul-one q)) (lt_of_le_of_lt h (lit< tt))))
    (λ (g : 2 ^ 23 ≤ q). by_size g (cases_lt q (2 ^ 24)))
    w
  where
    by_size : 2 ^ 23 ≤ q → (q < 2 ^ 24) ⊎ (2 ^ 24 ≤ q) → q * 2 ^ k < 2 ^ 277
    by_size g (inl a) = lt_of_lt_of_le (shl_lt 24 k a) (pow_mono (let r : 24 + k ≤ 277 = omega arith in r))
    by_size g (inr a) = lt_of_lt_of_le (shl_lt 25 k (let r : q < 2 ^ 25 = omega arith in r)) (pow_mono (let r : 25 + k ≤ 277 = omega arith in r))

out_of_range : (q k : ℕ) → q ≤ 2 ^ 24 → (k ≡ 0) ⊎ (2 ^ 23 ≤ q) → 0x7f80_0000 ≤ k * 0x80_0000 + q → 2 ^ 277 ≤ q * 2 ^ k
out_of_range q k h w l = ⊎_elim (λ (z : k ≡ 0). absurd (none z)) (λ (g : 2 ^ 23 ≤ q). by_size g (cases_lt k 254)) w
  where
    none : k ≡ 0 → ⊥
    none z = omega arith

    by_size : 2 ^ 23 ≤ q → (k < 254) ⊎ (254 ≤ k) → 2 ^ 277 ≤ q * 2 ^ k
    by_size g (inl a) =
        let c : 2 ^ 24 ≤ q = omega arith in
        let d : 24 + k ≡ 277 = omega arith in
        le_trans (le_of_eq (ap (λ (x : ℕ). 2 ^ x) (sym d) ∙ pow-add 2 24 k)) (mul-le-mul_right (2 ^ k) c)
    by_size g (inr a) =
        let d : 277 ≤ 23 + k = omega arith in
        le_trans (pow_mono d) (le_trans (le_of_eq (pow-add 2 23 k)) (mul-le-mul_right (2 ^ k) g))

units_fin : (s : Bool) (q k : ℕ) → q * 2 ^ k < 2 ^ 277 → units binary32 s q k ≡ odd 25 s q k 149
unfolding units
units_fin s q k h = ap (λ (b : Bool). cond b (odd 25 s q k 149) (inf s)) (is_true (ltb (q * 2 ^ k) (2 ^ 277)) (lt→ltb (q * 2 ^ k) (2 ^ 277) h))

pub units_inf : (s : Bool) (q k : ℕ) → 2 ^ 277 ≤ q * 2 ^ k → units binary32 s q k ≡ inf s
unfolding units
units_inf s q k h = cond_no (ltb (q * 2 ^ k) (2 ^ 277)) (odd 25 s q k 149) (inf s) (le→nltb (q * 2 ^ k) (2 ^ 277) h)

-- ---- the value of the pattern
inf_bits : (s : Bool) → of_bits binary32 (cond s (2 ^ 31) 0 + 0x7f80_0000) ≡ inf s
unfolding to_bits
inf_bits s = of_bits-to_bits binary32 (inf s) (inf-fits binary32 s)

fin_bits : (s : Bool) (q k : ℕ) → q ≤ 2 ^ 24 → (k ≡ 0) ⊎ (2 ^ 23 ≤ q) → q * 2 ^ k < 2 ^ 277 → of_bits binary32 (cond s (2 ^ 31) 0 + (k * 0x80_0000 + q)) ≡ units binary32 s q k
fin_bits s q k h w l =
    let v = units binary32 s q k in
    let fit : T (fits binary32 v) = subst (λ (x : Float). T (fits binary32 x)) (sym (units_fin s q k l)) (odd-fits binary32 25 s q k (let r : q < 2 ^ 25 = omega arith in r) h l) in
    ap (of_bits binary32) (sym (pattern_of v s (q * 2 ^ k) (units_val binary32 s q k l) ∙ ap (λ (x : ℕ). cond s (2 ^ 31) 0 + x) (fields_of q k h w)))
    ∙ of_bits-to_bits binary32 v fit

pub pattern : (s : Bool) (q k p : ℕ) → q ≤ 2 ^ 24 → (k ≡ 0) ⊎ (2 ^ 23 ≤ q) → p ≡ min (k * 0x80_0000 + q) 0x7f80_0000 → of_bits binary32 (cond s (2 ^ 31) 0 + p) ≡ units binary32 s q k
pattern s q k p h w e = go (cases_lt (k * 0x80_0000 + q) 0x7f80_0000)
  where
    go : (k * 0x80_0000 + q < 0x7f80_0000) ⊎ (0x7f80_0000 ≤ k * 0x80_0000 + q) → of_bits binary32 (cond s (2 ^ 31) 0 + p) ≡ units binary32 s q k
    go (inl l) =
        let r : p ≡ k * 0x80_0000 + q = omega arith in
        ap (λ (x : ℕ). of_bits binary32 (cond s (2 ^ 31) 0 + x)) r ∙ fin_bits s q k h w (in_range q k h w l)
    go (inr n) =
        let r : p ≡ 0x7f80_0000 = omega arith in
        ap (λ (x : ℕ). of_bits binary32 (cond s (2 ^ 31) 0 + x)) r ∙ inf_bits s ∙ sym (units_inf s q k (out_of_range q k h w (omega arith)))

units_no_nan : (s : Bool) (q k : ℕ) → is_nan (units binary32 s q k) ≡ false
unfolding units odd is_nan
units_no_nan s zero k = go (ltb (0 * 2 ^ k) (2 ^ 277))
  where
    go : (b : Bool) → is_nan (cond b (odd 25 s 0 k 149) (inf s)) ≡ false
    go true = refl
    go false = refl
units_no_nan s (suc q) k = go (ltb (suc q * 2 ^ k) (2 ^ 277))
  where
    go : (b : Bool) → is_nan (cond b (odd 25 s (suc q) k 149) (inf s)) ≡ false
    go true = refl
    go false = refl

pub pattern_no_nan : (s : Bool) (q k p : ℕ) → q ≤ 2 ^ 24 → (k ≡ 0) ⊎ (2 ^ 23 ≤ q) → p ≡ min (k * 0x80_0000 + q) 0x7f80_0000 → nan_bits binary32 (cond s (2 ^ 31) 0 + p) ≡ false
pattern_no_nan s q k p h w e = nan_bits_is binary32 (cond s (2 ^ 31) 0 + p) ∙ ap is_nan (pattern s q k p h w e) ∙ units_no_nan s q k
