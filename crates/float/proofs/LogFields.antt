-- What the fields of an f32 say of its logarithm.
use Rattle.std.proofs.Common.{◌≡◌, ℕ, zero, suc, ◌+◌, ◌-◌, ◌*◌, ◌/◌, ◌%◌, ◌^◌, ◌<◌, ◌≤◌, Bool, true, false, cond, not, T, leb, ℤ, pos, negsuc, ◌+ℤ◌, sym, refl, ap, ◌∙◌, subst, lt_of_lt_of_le, lt_irrefl, mul-le-mul_right, zero-lt-suc, mul_assoc, mul_comm, add_comm, mul-lt-mul_of_pos_right, zero-mul, mul-one, add-one, arith, lit≤, le→leb, leb→le, pow_pos, pow_mono, pow-add, shl_lt, le-leb}
use borrow.Author.Tests.{lt-leb}
use lib.Arith.{lt→nleb}
use lib.Count.{count_trailing_zeros, leading_top}
use lib.Dec.{nleb→lt}
use lib.IntN.{pred_ℤ}
use lib.Ieee.{Float, nan, inf, fin, binary32, binary64, odd, size, up, down, minus, round, div, of_int, of_fields, of_bits, to_bits, is_nan, fits}
use lib.Ieee.Digits.{odd_val, size-lt, size-le, size_reaches}
use lib.Ieee.Scale.{round_same}
use lib.Ieee.Bits.{is_true, is_false}
use Rattle.float.specs.Narrow.{narrowed}
use Rattle.float.specs.Log.{log_from, log_split, log_at, wide_log, log_of}
use Rattle.float.proofs.Digits.{size_gt, size_is}
use Rattle.float.proofs.WholeNumbers.{ratio, minus_plus}
use Rattle.float.proofs.Rounding.{zeros_of}
use Rattle.float.proofs.Fields.{subnormal, normal}
use Rattle.float.proofs.Signs.{at_infinity, nan_below}

-- ---- `log_at` sees only the value
size_moved : (a t : ℕ) → 0 < a → size (a * 2 ^ t) ≡ size a + t
size_moved a t p =
    let b = size a in
    let some : 0 < b = size_gt a 0 p in
    let j = b - 1 in
    let lo : 2 ^ j ≤ a = size_reaches a j (omega arith) in
    let e = size_is (a * 2 ^ t) (j + t) (subst (λ (x : ℕ). x ≤ a * 2 ^ t) (sym (pow-add 2 j t)) (mul-le-mul_right (2 ^ t) lo))
    (subst (λ (x : ℕ). a * 2 ^ t < 2 ^ x) (let r : b + t ≡ j + t + 1 = omega arith in r) (shl_lt b t (size-lt a))) in
    omega arith

leb_scaled : (c a p : ℕ) → 0 < p → leb c a ≡ leb (c * p) (a * p)
leb_scaled c a p h = go (leb c a) (leb→le c a) (nleb→lt c a)
  where
    go : (t : Bool) → (T t → c ≤ a) → (T (not t) → a < c) → t ≡ leb (c * p) (a * p)
    go true u v = sym (is_true (leb (c * p) (a * p)) (le→leb (c * p) (a * p) (mul-le-mul_right p (u tt))))
    go false u v = sym (is_false (leb (c * p) (a * p)) (lt→nleb (c * p) (a * p) (mul-lt-mul_of_pos_right (v tt) h)))

module _ (a t k l : ℕ) (p : 0 < a) where
  moved_test : leb (3 * 2 ^ size a) (4 * a) ≡ leb (3 * 2 ^ (size a + t)) (4 * (a * 2 ^ t))
  moved_test =
      leb_scaled (3 * 2 ^ size a) (4 * a) (2 ^ t) (pow_pos t)
      ∙ ap (λ (x : ℕ). leb x (4 * a * 2 ^ t)) (mul_assoc 3 (2 ^ size a) (2 ^ t) ∙ ap (λ (x : ℕ). 3 * x) (sym (pow-add 2 (size a) t)))
      ∙ ap (λ (x : ℕ). leb (3 * 2 ^ (size a + t)) x) (mul_assoc 4 a (2 ^ t))

  moved_m : (c : ℕ) → round binary64 false (c * a) (2 ^ size a) ≡ round binary64 false (c * (a * 2 ^ t)) (2 ^ (size a + t))
  moved_m c =
      round_same binary64 false (c * a) (2 ^ size a) (c * (a * 2 ^ t)) (2 ^ (size a + t)) (pow_pos (size a)) (pow_pos (size a + t))
      (ap (λ (x : ℕ). c * a * x) (pow-add 2 (size a) t) ∙ same c a (2 ^ t) (2 ^ size a))
    where
      same : (c a T S : ℕ) → c * a * (S * T) ≡ c * (a * T) * S
      same c a T S = simp (mul_assoc, mul_comm)

  moved_k : minus (k + t) l +ℤ pos (size a) ≡ minus k l +ℤ pos (size a + t)
  moved_k =
      minus_plus (k + t) l (size a)
      ∙ ap (λ (x : ℕ). minus x l) (let r : k + t + size a ≡ k + (size a + t) = omega arith in r)
      ∙ sym (minus_plus k l (size a + t))

  one : (n : ℕ) → round binary64 false n (2 ^ size a) ≡ round binary64 false (1 * n) (2 ^ size a)
  one n = ap (λ (x : ℕ). round binary64 false x (2 ^ size a)) (sym (mul_comm 1 n ∙ mul-one n))

  moved_split : (b : Bool) → log_split b a (minus (k + t) l) (size a) ≡ log_split b (a * 2 ^ t) (minus k l) (size a + t)
  unfolding log_split
  moved_split true =
      ap (λ (z : ℤ). log_from (round binary64 false a (2 ^ size a)) (of_int binary64 z)) moved_k
      ∙ ap (λ (m : Float). log_from m (of_int binary64 (minus k l +ℤ pos (size a + t))))
      (one a ∙ moved_m 1 ∙ ap (λ (x : ℕ). round binary64 false x (2 ^ (size a + t))) (mul_comm 1 (a * 2 ^ t) ∙ mul-one (a * 2 ^ t)))
  moved_split false =
      ap (λ (z : ℤ). log_from (round binary64 false (2 * a) (2 ^ size a)) (of_int binary64 (pred_ℤ z))) moved_k
      ∙ ap (λ (m : Float). log_from m (of_int binary64 (pred_ℤ (minus k l +ℤ pos (size a + t))))) (moved_m 2)

  log_moved : log_at a (minus (k + t) l) ≡ log_at (a * 2 ^ t) (minus k l)
  unfolding log_at
  log_moved =
      ap (λ (b : Bool). log_split b a (minus (k + t) l) (size a)) moved_test
      ∙ moved_split (leb (3 * 2 ^ (size a + t)) (4 * (a * 2 ^ t)))
      ∙ ap (λ (s : ℕ). log_split (leb (3 * 2 ^ s) (4 * (a * 2 ^ t))) (a * 2 ^ t) (minus k l) s) (sym (size_moved a t p))

log_fin : (n : ℕ) (e : ℤ) → 0 < n → log_of (fin false n e) ≡ narrowed (log_at n e)
unfolding log_of wide_log
log_fin zero e p = absurd (lt_irrefl 0 p)
log_fin (suc n) e p = refl

log_odd : (d q k l : ℕ) → 0 < q → log_of (odd d false q k l) ≡ narrowed (log_at q (minus k l))
unfolding odd
log_odd d zero k l p = absurd (lt_irrefl 0 p)
log_odd d (suc q) k l p =
    let t = count_trailing_zeros d (suc q) in
    let a = suc q / 2 ^ t in
    let back : a * 2 ^ t ≡ suc q = scale a (suc q) t (odd_val d false (suc q) 0 0) in
    let some : 0 < a = positive a (2 ^ t) q back in
    log_fin a (minus (k + t) l) some ∙ ap narrowed (log_moved a t k l some ∙ ap (λ (n : ℕ). log_at n (minus k l)) back)
  where
    scale : (a n t : ℕ) → a * up (minus (0 + t) 0) * 1 ≡ n * 1 * down (minus (0 + t) 0) → a * 2 ^ t ≡ n
    scale a n t = go (leb 0 (0 + t)) (le→leb 0 (0 + t) (omega arith))
      where
        go : (b : Bool) → T b → a * up (cond b (pos (0 + t - 0)) (negsuc (0 - suc (0 + t)))) * 1 ≡ n * 1 * down (cond b (pos (0 + t - 0)) (negsuc (0 - suc (0 + t)))) → a * 2 ^ t ≡ n
        go true h e = ap (λ (x : ℕ). a * 2 ^ x) (let r : t ≡ 0 + t - 0 = omega arith in r) ∙ sym (mul-one _) ∙ e ∙ mul-one (n * 1) ∙ mul-one n
        go false h e = absurd h

    positive : (a P q : ℕ) → a * P ≡ suc q → 0 < a
    positive zero P q e = absurd (let r : ⊥ = omega (arith, zero-mul P) in r)
    positive (suc a) P q e = zero-lt-suc a

-- ---- above zero

pub log_subnormal : (x t : ℕ) → x ≡ 0 → 0 < t → log_of (of_fields binary32 false x t) ≡ narrowed (log_at t (minus 0 149))
log_subnormal x t e p = ap log_of (subnormal binary32 false x t e) ∙ log_odd 24 t 0 149 p

pub log_normal : (x t : ℕ) → (x ≡ 0 → ⊥) → (x ≡ 255 → ⊥) → log_of (of_fields binary32 false x t) ≡ narrowed (log_at (t + 2 ^ 23) (minus (x - 1) 149))
log_normal x t p n =
    ap log_of (normal binary32 false x t p n)
    ∙ log_odd 24 (2 ^ 23 + t) (x - 1) 149 (let r : 0 < 2 ^ 23 + t = omega arith in r)
    ∙ ap (λ (z : ℕ). narrowed (log_at z (minus (x - 1) 149))) (add_comm (2 ^ 23) t)

log_inf : log_of (inf false) ≡ inf false
unfolding log_of wide_log narrowed
log_inf = refl

pub log_infinite : (x t : ℕ) → x ≡ 255 → T (not (is_nan (of_fields binary32 false x t))) → of_fields binary32 false x t ≡ log_of (of_fields binary32 false x t)
log_infinite = at_infinity log_of log_inf

-- ---- NaN, the zeros and what is below

pub log_nan : log_of nan ≡ nan
unfolding log_of wide_log narrowed
log_nan = refl

pub log_zero : of_bits binary32 0xff80_0000 ≡ log_of (of_bits binary32 0)
unfolding log_of wide_log narrowed of_bits
log_zero = refl

pub log_minus_zero : of_bits binary32 0xff80_0000 ≡ log_of (of_bits binary32 (2 ^ 31))
unfolding log_of wide_log narrowed of_bits
log_minus_zero = refl

log_minus_inf : log_of (inf true) ≡ nan
unfolding log_of wide_log narrowed
log_minus_inf = refl

log_below : (m : ℕ) (e : ℤ) → log_of (fin true (suc m) e) ≡ nan
unfolding log_of wide_log narrowed
log_below m e = refl

pub log_negative : (x : Float) → T (fits binary32 x) → 2 ^ 31 < to_bits binary32 x → log_of x ≡ nan
log_negative = nan_below log_of log_nan log_minus_inf log_below

-- ---- m of n = 64 - zeros digits, as the code has it

pub record Counted (m : ℕ) : Type 0 where
  pub digits : 64 - zeros_of m ≡ size m
  pub few : size m ≤ 24
  pub top : 1 * 2 ^ (64 - zeros_of m) % 2 ^ 64 ≡ 2 ^ size m
  pub under : 2 ^ size m ≤ 2 ^ 24

pub counted : (m : ℕ) → 0 < m → m < 2 ^ 24 → Counted m
counted m p h =
    let z = leading_top 64 m p (lt_of_lt_of_le h (lit≤ tt)) in
    let j = z.0 in
    let s : size m ≡ j + 1 = size_is m j z.2 (subst (λ (x : ℕ). m < 2 ^ x) (sym (add-one j)) z.3) in
    let g : size m ≤ 24 = size-le m 24 h in
    let d : 64 - zeros_of m ≡ size m = omega (arith, z.1, s) in
    let u : 2 ^ size m ≤ 2 ^ 24 = pow_mono g in
    record {
      digits = d;
      few = g;
      top = ap (λ (x : ℕ). 1 * 2 ^ x % 2 ^ 64) d ∙ (let r : 1 * 2 ^ size m % 2 ^ 64 ≡ 2 ^ size m = omega (arith, u) in r);
      under = u;
    }

module _ (m e : ℕ) (some : 0 < m) (short : m < 2 ^ 24) where
  abbrev top : ℕ
  top = 1 * 2 ^ (64 - zeros_of m) % 2 ^ 64

  m_is : (n : ℕ) → n < 2 ^ 53 → div binary64 (of_int binary64 (pos n)) (of_int binary64 (pos top)) ≡ round binary64 false n (2 ^ size m)
  m_is n h =
      let c = counted m some short in
      ap (λ (t : ℕ). div binary64 (of_int binary64 (pos n)) (of_int binary64 (pos t))) c.top
      ∙ ratio n (2 ^ size m) h (pow_pos (size m)) (omega (arith, c.under))

  k_is : (l : ℕ) → minus (e + (64 - zeros_of m)) l ≡ minus e l +ℤ pos (size m)
  k_is l = ap (λ (b : ℕ). minus (e + b) l) (counted m some short).digits ∙ sym (minus_plus e l (size m))

  test_is : (b : Bool) → leb (3 * top) (4 * m) ≡ b → log_at m (minus e 149) ≡ log_split b m (minus e 149) (size m)
  unfolding log_at
  test_is b h = ap (λ (t : Bool). log_split t m (minus e 149) (size m)) (ap (λ (t : ℕ). leb (3 * t) (4 * m)) (sym (counted m some short).top) ∙ h)

  pub log_high : (k : Float) → k ≡ of_int binary64 (minus (e + (64 - zeros_of m)) 149) → 3 * top ≤ 4 * m → log_from (div binary64 (of_int binary64 (pos m)) (of_int binary64 (pos top))) k ≡ log_at m (minus e 149)
  unfolding log_split
  log_high k q h =
      ap (λ (x : Float). log_from x k) (m_is m (omega (arith, short)))
      ∙ ap (log_from (round binary64 false m (2 ^ size m))) (q ∙ ap (of_int binary64) (k_is 149))
      ∙ sym (test_is true (le-leb (3 * top) (4 * m) h))

  pub log_low : (k : Float) → k ≡ of_int binary64 (pred_ℤ (minus (e + (64 - zeros_of m)) 149)) → 4 * m < 3 * top → log_from (div binary64 (of_int binary64 (pos (2 * m))) (of_int binary64 (pos top))) k ≡ log_at m (minus e 149)
  unfolding log_split
  log_low k q h =
      ap (λ (x : Float). log_from x k) (m_is (2 * m) (omega (arith, short)))
      ∙ ap (log_from (round binary64 false (2 * m) (2 ^ size m))) (q ∙ ap (of_int binary64) (ap pred_ℤ (k_is 149)))
      ∙ sym (test_is false (lt-leb (3 * top) (4 * m) h))
