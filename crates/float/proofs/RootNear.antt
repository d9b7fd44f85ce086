-- `rooted x` is the nearest root of a positive finite x: no fraction up to √x rounds to more, and none from √x on rounds to less.
-- The root is q units of 2 ^ k where 2 * q - 1 and 2 * q + 1 lie on either side of twice √x in such units, so a fraction below √x rounds to at most q and one above to at least q.
use Rattle.std.proofs.Common.{◌≡◌, ℕ, zero, suc, ◌+◌, ◌-◌, ◌*◌, ◌/◌, ◌%◌, ◌^◌, ◌<◌, ◌≤◌, Bool, true, false, cond, not, T, eqb, ltb, leb, sym, refl, ap, ◌∙◌, subst, ⊎_elim, true≢false, le_trans, le_of_eq, lt_of_lt_of_le, le_of_suc-le-suc, lt_of_le_of_lt, le_of_lt, mul-le-mul_right, mod-lt, zero-lt-suc, mul_assoc, lt-suc_self, mul_comm, div-lt_iff_lt-mul, add-mul, eq-zero-or-pos, eq-or-lt_of_le, mul-le-mul_left, mul-lt-mul_of_pos_right, mul-pos, div-add-mod', le-div_iff_mul-le, mul-add, le_of_mul-le-mul_right, mul_left_comm, add-one, arith, ltb→lt, nltb→le, pow_pos, pow_mono, pow-add}
use Prim.Native.Nat.{compare}
use native.Mathlib.Nat.{mul-mul-mul_comm, div-div-eq-div-mul}
use lib.Ieee.{Float, nan, inf, fin, binary32, odd, units, size, round, le, of_fields, of_bits, to_bits, fits}
use lib.Ieee.Bits.{of_bits-fits}
use lib.Ieee.Digits.{size-le, size_reaches}
use lib.Ieee.Exact.{HasValue, odd_sign}
use lib.Ieee.Fits.{nearest-le, kept-lt, round_is}
use lib.Ieee.Nearest.{closest, nearest-ge}
use lib.Ieee.Order.{le_of_values}
use lib.Ieee.Positive.{num, den, den_pos, positive, positive_of_value, value→cross}
use Rattle.whole_root.proofs.Squares.{twice, half_square, square_lt}
use Rattle.float.specs.Root.{isqrt, near_root, rooted, NearestRoot}
use Rattle.float.proofs.Closest.{closest_down, closest_up}
use Rattle.float.proofs.Digits.{size_gt}
use Rattle.std.proofs.lemmas.Bool.{cases_lt}
use Rattle.float.proofs.Fields.{own, subnormal, normal}
use Rattle.float.proofs.WholeRoot.{Root, isqrt_root, near_up, near_down, root_ge, scaled, k_of, n_of}
use Rattle.float.proofs.RootFields.{rooted_odd}
use Rattle.float.proofs.Signs.{sign, sign_fields, unsigned}

-- ---- squares
square_le : (x y : ℕ) → x * x ≤ y * y → x ≤ y
square_le x y h =
    le_of_suc-le-suc
    (square_lt x (suc y) (lt_of_le_of_lt h (lt_of_le_of_lt (mul-le-mul_left y (le_of_lt (lt-suc_self y))) (mul-lt-mul_of_pos_right (lt-suc_self y) (zero-lt-suc y)))))

half_scaled : (q C : ℕ) → (2 * q + 1) * C * ((2 * q + 1) * C) ≡ 4 * ((q * q + q) * (C * C)) + C * C
half_scaled q C =
    mul-mul-mul_comm (2 * q + 1) C (2 * q + 1) C
    ∙ ap (λ (x : ℕ). x * (C * C)) (half_square q)
    ∙ add-mul (4 * (q * q + q)) 1 (C * C)
    ∙ (let e = mul_assoc 4 (q * q + q) (C * C) in let r : 4 * (q * q + q) * (C * C) + 1 * (C * C) ≡ 4 * ((q * q + q) * (C * C)) + C * C = omega arith in r)

-- ---- A / C on one side of a whole number and a half
halves : (q C : ℕ) → (2 * q + 1) * C ≡ 2 * (q * C) + C
halves q C = add-mul (2 * q) 1 C ∙ (let e = mul_assoc 2 q C in let r : 2 * q * C + 1 * C ≡ 2 * (q * C) + C = omega arith in r)

at_most : (A C q : ℕ) → 0 < C → 2 * A < (2 * q + 1) * C → closest A C ≤ q
at_most A C q p h =
    let e = halves q C in
    let f = add-mul q 1 C in
    let l : A / C < q + 1 = (div-lt_iff_lt-mul p).1 (let r : A < (q + 1) * C = omega arith in r) in
    ⊎_elim (λ (i : A / C ≡ q).
    let d : q * C + A % C ≡ A = ap (λ (x : ℕ). x * C + A % C) (sym i) ∙ div-add-mod' A C in
    le_of_eq (closest_down A C (let r : A % C * 2 < C = omega arith in r) ∙ i))
    (λ (i : A / C < q). le_trans (nearest-le (A / C) (compare (A % C * 2) C)) i)
    (eq-or-lt_of_le (let r : A / C ≤ q = omega arith in r))

at_least : (A C s : ℕ) → 0 < C → (2 * s + 1) * C < 2 * A → s + 1 ≤ closest A C
at_least A C s p h =
    let e = halves s C in
    let l : s ≤ A / C = (le-div_iff_mul-le p).1 (let r : s * C ≤ A = omega arith in r) in
    ⊎_elim (λ (i : s ≡ A / C).
    let d : s * C + A % C ≡ A = ap (λ (x : ℕ). x * C + A % C) i ∙ div-add-mod' A C in
    le_of_eq (sym (closest_up A C (let r : C < A % C * 2 = omega arith in r) ∙ ap (λ (x : ℕ). x + 1) (sym i))))
    (λ (i : s < A / C). le_trans (let r : s + 1 ≤ A / C = omega arith in r) (nearest-ge (A / C) (compare (A % C * 2) C)))
    (eq-or-lt_of_le l)

-- ---- the order of values is that of their units
le_inf : (x : Float) (a c : ℕ) → HasValue x false a c → T (le x (inf false))
unfolding le
le_inf nan a c p = absurd p
le_inf (inf s) a c p = absurd p
le_inf (fin true m e) a c p = absurd (true≢false p.0)
le_inf (fin false m e) a c p = tt

clash : (x y z : ℕ) → x ≤ y → y < z → z ≤ x → ⊥
clash x y z a b c = omega arith

units_mono : (q j r k : ℕ) → q * 2 ^ j ≤ r * 2 ^ k → T (le (units binary32 false q j) (units binary32 false r k))
unfolding units
units_mono q j r k h = go (ltb (q * 2 ^ j) (2 ^ 277)) (ltb (r * 2 ^ k) (2 ^ 277)) (nltb→le (q * 2 ^ j) (2 ^ 277)) (ltb→lt (r * 2 ^ k) (2 ^ 277))
  where
    go : (x y : Bool) → (T (not x) → 2 ^ 277 ≤ q * 2 ^ j) → (T y → r * 2 ^ k < 2 ^ 277)
        → T (le (cond x (odd 25 false q j 149) (inf false)) (cond y (odd 25 false r k 149) (inf false)))
    go true true a b =
        le_of_values (odd 25 false q j 149) (odd 25 false r k 149) (q * 2 ^ j) (2 ^ 149) (r * 2 ^ k) (2 ^ 149) (pow_pos 149) (pow_pos 149)
        (odd_sign 25 false q j 149) (odd_sign 25 false r k 149) (mul-le-mul_right (2 ^ 149) h)
    go true false a b = le_inf (odd 25 false q j 149) (q * 2 ^ j) (2 ^ 149) (odd_sign 25 false q j 149)
    go false true a b = absurd (clash (q * 2 ^ j) (r * 2 ^ k) (2 ^ 277) h (b tt) (a tt))
    go false false a b = unfold le in tt

-- ---- X is the number under the root, in units of 4 ^ k, and q = s + 1 is the whole number nearest to its root
module _ (X k q s : ℕ) (lo : 2 ^ 46 ≤ X) (hi : X < 2 ^ 48) (q_is : q ≡ s + 1) (over : s * s + s < X) (under : X ≤ q * q + q) (q_lo : 2 ^ 23 ≤ q) (q_hi : q ≤ 2 ^ 24) where
  module _ (A c : ℕ) (c_pos : 0 < c) where
    abbrev C : ℕ
    C = c * 2 ^ k

    abbrev j : ℕ
    j = size (A / c) - 24

    unit_pos : 0 < c * 2 ^ k
    unit_pos = mul-pos c_pos (pow_pos k)

    turn : (p : ℕ) → 2 ^ p * (c * 2 ^ k) ≡ 2 ^ (p + k) * c
    turn p = ap (λ (x : ℕ). 2 ^ p * x) (mul_comm c (2 ^ k)) ∙ sym (mul_assoc (2 ^ p) (2 ^ k) c) ∙ ap (λ (x : ℕ). x * c) (sym (pow-add 2 p k))

    -- A / c is at most the root
    module _ (h : A * A ≤ X * (C * C)) where
      a_lt : A < 2 ^ 24 * C
      a_lt =
          square_lt A (2 ^ 24 * C)
          (lt_of_le_of_lt h (lt_of_lt_of_le (mul-lt-mul_of_pos_right hi (mul-pos unit_pos unit_pos)) (le_of_eq (sym (mul-mul-mul_comm (2 ^ 24) C (2 ^ 24) C)))))

      j_le : j ≤ k
      j_le =
          let l = size-le (A / c) (24 + k) ((div-lt_iff_lt-mul c_pos).1 (subst (λ (x : ℕ). A < x) (turn 24) a_lt)) in
          omega arith

      half_lt : 2 * A < (2 * q + 1) * C
      half_lt =
          square_lt (2 * A) ((2 * q + 1) * C)
          (subst (λ (x : ℕ). 2 * A * (2 * A) < x) (sym (half_scaled q C))
          (let u = mul-le-mul_right (C * C) under in let t = twice A in let p = mul-pos unit_pos unit_pos in omega arith))

      kept_le : closest A (c * 2 ^ j) * 2 ^ j ≤ q * 2 ^ k
      kept_le =
          ⊎_elim (λ (i : j ≡ k). subst (λ (z : ℕ). closest A (c * 2 ^ z) * 2 ^ z ≤ q * 2 ^ k) (sym i) (mul-le-mul_right (2 ^ k) (at_most A C q unit_pos half_lt)))
          (λ (i : j < k).
          le_trans (mul-le-mul_right (2 ^ j)
          (le_trans (nearest-le (A / (c * 2 ^ j)) (compare (A % (c * 2 ^ j) * 2) (c * 2 ^ j))) (subst (λ (x : ℕ). x < 2 ^ 24) (div-div-eq-div-mul A c (2 ^ j)) (kept-lt 24 (A / c)))))
          (le_trans (le_of_eq (sym (pow-add 2 24 j)))
          (le_trans (pow_mono (let r : 24 + j ≤ 23 + k = omega arith in r)) (le_trans (le_of_eq (pow-add 2 23 k)) (mul-le-mul_right (2 ^ k) q_lo)))))
          (eq-or-lt_of_le j_le)

    -- A / c is at least the root
    module _ (h : X * (C * C) ≤ A * A) where
      a_ge : 2 ^ 23 * C ≤ A
      a_ge = square_le (2 ^ 23 * C) A (le_trans (le_of_eq (mul-mul-mul_comm (2 ^ 23) C (2 ^ 23) C)) (le_trans (mul-le-mul_right (C * C) lo) h))

      k_le : k ≤ j
      k_le =
          let l = size_gt (A / c) (23 + k) ((le-div_iff_mul-le c_pos).1 (subst (λ (x : ℕ). x ≤ A) (turn 23) a_ge)) in
          omega arith

      half_gt : (2 * s + 1) * C < 2 * A
      half_gt =
          square_lt ((2 * s + 1) * C) (2 * A)
          (subst (λ (x : ℕ). x < 2 * A * (2 * A)) (sym (half_scaled s C))
          (let u = mul-le-mul_right (C * C) over in
          let v = add-mul (s * s + s) 1 (C * C) in
          let w = ap (λ (x : ℕ). x * (C * C)) (add-one (s * s + s)) in
          let t = twice A in
          let p = mul-pos unit_pos unit_pos in
          omega arith))

      kept_ge : q * 2 ^ k ≤ closest A (c * 2 ^ j) * 2 ^ j
      kept_ge =
          ⊎_elim (λ (i : k ≡ j). subst (λ (z : ℕ). q * 2 ^ k ≤ closest A (c * 2 ^ z) * 2 ^ z) i (mul-le-mul_right (2 ^ k) (subst (λ (x : ℕ). x ≤ closest A C) (sym q_is) (at_least A C s unit_pos half_gt))))
          (λ (i : k < j).
          let z : 2 ^ 23 * 2 ^ j ≤ A / c = le_trans (le_of_eq (sym (pow-add 2 23 j))) (size_reaches (A / c) (23 + j) (omega arith)) in
          le_trans (mul-le-mul_right (2 ^ k) q_hi)
          (le_trans (le_of_eq (sym (pow-add 2 24 k)))
          (le_trans (pow_mono (let r : 24 + k ≤ 23 + j = omega arith in r))
          (le_trans (le_of_eq (pow-add 2 23 j))
          (mul-le-mul_right (2 ^ j)
          (le_trans (subst (λ (x : ℕ). 2 ^ 23 ≤ x) (div-div-eq-div-mul A c (2 ^ j)) ((le-div_iff_mul-le (pow_pos j)).1 z)) (nearest-ge (A / (c * 2 ^ j)) (compare (A % (c * 2 ^ j) * 2) (c * 2 ^ j)))))))))
          (eq-or-lt_of_le k_le)

-- ---- from a fraction a / c to its square: u is 1 in units, and v is n / d in units
module _ (a c n d u v : ℕ) (d-pos : 0 < d) (val : n * u ≡ v * d) where
  left : a * u * (a * u) * d ≡ a * a * d * (u * u)
  left = simp (mul_assoc, mul_comm, mul_left_comm)

  right : n * (c * c) * (u * u) ≡ v * u * (c * c) * d
  right =
      (let e : n * (c * c) * (u * u) ≡ n * u * (c * c * u) = simp (mul_assoc, mul_comm, mul_left_comm) in e)
      ∙ ap (λ (x : ℕ). x * (c * c * u)) val
      ∙ (let e : v * d * (c * c * u) ≡ v * u * (c * c) * d = simp (mul_assoc, mul_comm, mul_left_comm) in e)

  squares_le : a * a * d ≤ n * (c * c) → a * u * (a * u) ≤ v * u * (c * c)
  squares_le h = le_of_mul-le-mul_right (le_trans (le_of_eq left) (le_trans (mul-le-mul_right (u * u) h) (le_of_eq right))) d-pos

  squares_ge : n * (c * c) ≤ a * a * d → v * u * (c * c) ≤ a * u * (a * u)
  squares_ge h = le_of_mul-le-mul_right (le_trans (le_of_eq (sym right)) (le_trans (mul-le-mul_right (u * u) h) (le_of_eq (sym left)))) d-pos

regroup : (X p c : ℕ) → X * (p * p) * (c * c) ≡ X * (c * p * (c * p))
regroup X p c = simp (mul_assoc, mul_comm, mul_left_comm)

double : (k : ℕ) → 2 ^ (2 * k) ≡ 2 ^ k * 2 ^ k
double k = ap (λ (x : ℕ). 2 ^ x) (let r : 2 * k ≡ k + k = omega arith in r) ∙ pow-add 2 k k

-- ---- what `near_root` picks
record Picked (X q s : ℕ) : Type 0 where
  q_is : q ≡ s + 1
  over : s * s + s < X
  under : X ≤ q * q + q
  q_lo : 2 ^ 23 ≤ q
  q_hi : q ≤ 2 ^ 24

picked : (X : ℕ) → 2 ^ 46 ≤ X → X < 2 ^ 48 → Picked X (near_root X) (near_root X - 1)
picked X lo hi =
    let r = isqrt 24 X in
    let p : Root X r = isqrt_root 24 X hi in
    let g = root_ge X r lo p in
    let l = square_lt r (2 ^ 24) (lt_of_le_of_lt p.0 hi) in
    ⊎_elim (λ (b : r * r + r < X). subst (λ (q : ℕ). Picked X q (q - 1)) (sym (near_up X r hi p b)) (up r b p.1 g l))
    (λ (b : X ≤ r * r + r). subst (λ (q : ℕ). Picked X q (q - 1)) (sym (near_down X r hi p b)) (down r b p.0 g l))
    (cases_lt (r * r + r) X)
  where
    up : (r : ℕ) → r * r + r < X → X < (r + 1) * (r + 1) → 2 ^ 23 ≤ r → r < 2 ^ 24 → Picked X (r + 1) (r + 1 - 1)
    up r b h g l =
        let e : r + 1 - 1 ≡ r = omega arith in
        record { q_is = omega arith; over = subst (λ (s : ℕ). s * s + s < X) (sym e) b; under = omega arith; q_lo = omega arith; q_hi = omega arith }

    down : (r : ℕ) → X ≤ r * r + r → r * r ≤ X → 2 ^ 23 ≤ r → r < 2 ^ 24 → Picked X r (r - 1)
    down r b h g l =
        let s = r - 1 in
        let e : r ≡ s + 1 = omega arith in
        let f : r * r ≡ (s + 1) * (s + 1) = ap (λ (x : ℕ). x * x) e in
        let m = mul-add (s + 1) s 1 in
        let n = add-mul s 1 s in
        record { q_is = e; over = omega arith; under = b; q_lo = g; q_hi = omega arith }

-- ---- a positive value by its digits and its exponent
Shaped : Float → Type 0
Shaped x = (M : ℕ) × (K : ℕ) × (M < 2 ^ 24) × (x ≡ odd 24 false M K 149)

shaped_fields : (s : Bool) (x t : ℕ) (v : Float) → t < 2 ^ 23 → v ≡ of_fields binary32 s x t → T (positive v) → Shaped v
unfolding of_fields Shaped
shaped_fields true x t v h e p = absurd (never v (ap sign e ∙ sign_fields x t) p)
  where
    never : (v : Float) → sign v ≡ true → T (positive v) → ⊥
    never nan e p = p
    never (inf s) e p = p
    never (fin true m k) e p = p
    never (fin false m k) e p = true≢false (sym e ∙ (unfold sign in refl))
shaped_fields false zero t v h e p = (t, 0, let r : t < 2 ^ 24 = omega arith in r, e)
shaped_fields false (suc x) t v h e p = go (eqb (suc x) 255) (eqb t 0) e
  where
    go : (a b : Bool) → v ≡ cond a (cond b (inf false) nan) (odd 24 false (2 ^ 23 + t) x 149) → Shaped v
    go true true i = absurd (subst (λ (y : Float). T (positive y)) i p)
    go true false i = absurd (subst (λ (y : Float). T (positive y)) i p)
    go false b i = (2 ^ 23 + t, x, let r : 2 ^ 23 + t < 2 ^ 24 = omega arith in r, i)

shaped : (x : Float) → T (fits binary32 x) → T (positive x) → Shaped x
shaped x f p = let b = to_bits binary32 x in shaped_fields (leb (2 ^ 31) b) (b % 2 ^ 31 / 2 ^ 23) (b % 2 ^ 23) x (mod-lt b (pow_pos 23)) (own binary32 x f) p

not_zero : (x : Float) (K : ℕ) → T (positive x) → x ≡ odd 24 false 0 K 149 → ⊥
unfolding odd
not_zero x K p e = subst (λ (y : Float). T (positive y)) e p

-- ---- the theorem
pub nearest_root : (x : Float) → T (fits binary32 x) → T (positive x) → NearestRoot x (rooted x)
unfolding Shaped
nearest_root x f p =
    let z = shaped x f p in
    let M = z.0 in
    let K = z.1 in
    let val : num x * 2 ^ 149 ≡ M * 2 ^ K * den x = value→cross x (M * 2 ^ K) (2 ^ 149) (subst (λ (y : Float). HasValue y false (M * 2 ^ K) (2 ^ 149)) (sym z.3) (odd_sign 24 false M K 149)) in
    let some : M ≡ 0 → ⊥ = λ e. not_zero x K p (z.3 ∙ ap (λ (m : ℕ). odd 24 false m K 149) e) in
    let e = K + 149 in
    let w = scaled M e z.2 (let r : 149 ≤ K + 149 = omega arith in r) some in
    let X = n_of M e in
    let k = k_of M e in
    let q = near_root X in
    let i = picked X w.over w.under in
    let is : rooted x ≡ units binary32 false q k = ap rooted z.3 ∙ rooted_odd 24 M K ∙ w.is in
    let units_of : (c : ℕ) → M * 2 ^ K * 2 ^ 149 * (c * c) ≡ X * (c * 2 ^ k * (c * 2 ^ k)) =
    λ c. ap (λ (y : ℕ). y * (c * c)) (mul_assoc M (2 ^ K) (2 ^ 149) ∙ ap (λ (y : ℕ). M * y) (sym (pow-add 2 K 149)) ∙ w.exact ∙ ap (λ (y : ℕ). X * y) (double k)) ∙ regroup X (2 ^ k) c in
    record {
      below = λ a c c_pos h.
          subst (λ (y : Float). T (le (round binary32 false a c) y)) (sym is)
          (subst (λ (y : Float). T (le y (units binary32 false q k))) (sym (round_is binary32 false a c))
          (units_mono (closest (a * 2 ^ 149) (c * 2 ^ (size (a * 2 ^ 149 / c) - 24))) (size (a * 2 ^ 149 / c) - 24) q k
          (kept_le X k q (q - 1) w.over w.under i.q_is i.over i.under i.q_lo i.q_hi (a * 2 ^ 149) c c_pos
          (le_trans (squares_le a c (num x) (den x) (2 ^ 149) (M * 2 ^ K) (den_pos x) val h) (le_of_eq (units_of c))))));
      above = λ a c c_pos h.
          subst (λ (y : Float). T (le y (round binary32 false a c))) (sym is)
          (subst (λ (y : Float). T (le (units binary32 false q k) y)) (sym (round_is binary32 false a c))
          (units_mono q k (closest (a * 2 ^ 149) (c * 2 ^ (size (a * 2 ^ 149 / c) - 24))) (size (a * 2 ^ 149 / c) - 24)
          (kept_ge X k q (q - 1) w.over w.under i.q_is i.over i.under i.q_lo i.q_hi (a * 2 ^ 149) c c_pos
          (le_trans (le_of_eq (sym (units_of c))) (squares_ge a c (num x) (den x) (2 ^ 149) (M * 2 ^ K) (den_pos x) val h)))));
    }

-- ---- 02, request three, by bit patterns: every positive finite value, from 00000001, the smallest subnormal, to 7F7FFFFF, the largest; 0 and infinity
positive_odd : (q k : ℕ) → 0 < q → T (positive (odd 24 false q k 149))
positive_odd q k h = positive_of_value (odd 24 false q k 149) (q * 2 ^ k) (2 ^ 149) (odd_sign 24 false q k 149) (mul-pos h (pow_pos k))

positive_bits : (b : ℕ) → 0 < b → b < 0x7f80_0000 → T (positive (of_bits binary32 b))
positive_bits b lo hi =
    let x = b % 2 ^ 31 / 2 ^ 23 in
    let t = b % 2 ^ 23 in
    subst (λ (y : Float). T (positive y)) (sym (unsigned b (omega arith)))
    (⊎_elim (λ (z : x ≡ 0). subst (λ (y : Float). T (positive y)) (sym (subnormal binary32 false x t z)) (positive_odd t 0 (omega arith)))
    (λ (z : 0 < x). subst (λ (y : Float). T (positive y)) (sym (normal binary32 false x t (λ i. omega arith) (λ i. omega arith))) (positive_odd (2 ^ 23 + t) (x - 1) (omega arith)))
    (eq-zero-or-pos x))

pub every_positive : (b : ℕ) → 0 < b → b < 0x7f80_0000 → NearestRoot (of_bits binary32 b) (rooted (of_bits binary32 b))
every_positive b lo hi = nearest_root (of_bits binary32 b) (of_bits-fits binary32 b) (positive_bits b lo hi)

pub of_zero : rooted (of_bits binary32 0) ≡ of_bits binary32 0
unfolding rooted of_bits
of_zero = refl

pub of_infinity : rooted (of_bits binary32 0x7f80_0000) ≡ of_bits binary32 0x7f80_0000
unfolding rooted of_bits
of_infinity = refl

-- computed at both ends
of_smallest : rooted (of_bits binary32 1) ≡ of_bits binary32 0x1a35_04f3
unfolding rooted of_bits
of_smallest = refl

of_largest : rooted (of_bits binary32 0x7f7f_ffff) ≡ of_bits binary32 0x5f7f_ffff
unfolding rooted of_bits
of_largest = refl
