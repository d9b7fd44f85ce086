-- Whole numbers as f64: their differences and quotients, each rounded once.
use Rattle.std.proofs.Common.{◌≡◌, ℕ, zero, suc, ◌+◌, ◌-◌, ◌*◌, ◌^◌, ◌<◌, ◌≤◌, Bool, true, false, cond, not, T, ltb, leb, ℤ, pos, negsuc, ◌+ℤ◌, sym, refl, ap, ◌∙◌, true≢false, le_of_lt, zero-lt-suc, mul_assoc, mul_comm, mul-pos, zero-mul, mul-one, mul_left_comm, arith, le→leb, ltb→lt, leb→le, nltb→le}
use lib.Arith.{lt→nleb}
use lib.Dec.{eqb-suc-zero, nleb→lt}
use lib.IntN.{pred_ℤ, ◌-ℤ◌}
use mir.Syntax.{w64}
use mir.Val.{of_z, to_z}
use Rattle.std.proofs.lemmas.Int.{ints}
use lib.Ieee.{Float, nan, inf, fin, binary64, up, down, minus, round, div, of_int}
use lib.Ieee.Exact.{HasValue}
use lib.Ieee.Fits.{up_pos, down_pos}
use lib.Ieee.Scale.{round_same}
use lib.Ieee.Bits.{is_true, is_false}
use Rattle.float.proofs.Unit.{whole}

-- ---- differences of whole numbers
pub minus_plus : (a l b : ℕ) → minus a l +ℤ pos b ≡ minus (a + b) l
minus_plus a l b = go (leb l a) (leb→le l a) (nleb→lt l a)
  where
    go : (t : Bool) → (T t → l ≤ a) → (T (not t) → a < l) → cond t (pos (a - l)) (negsuc (l - suc a)) +ℤ pos b ≡ minus (a + b) l
    go true u v =
        let h = u tt in
        ap pos (let r : a - l + b ≡ a + b - l = omega arith in r)
        ∙ ap (λ (t : Bool). cond t (pos (a + b - l)) (negsuc (l - suc (a + b)))) (sym (is_true (leb l (a + b)) (le→leb l (a + b) (omega arith))))
    go false u v =
        let h = v tt in
        far (ltb b (suc (l - suc a))) (ltb→lt b (suc (l - suc a))) (nltb→le b (suc (l - suc a))) h
      where
        far : (t : Bool) → (T t → b < suc (l - suc a)) → (T (not t) → suc (l - suc a) ≤ b) → a < l
            → cond t (negsuc (suc (l - suc a) - suc b)) (pos (b - suc (l - suc a))) ≡ minus (a + b) l
        far true p q h =
            let k = p tt in
            ap negsuc (let r : suc (l - suc a) - suc b ≡ l - suc (a + b) = omega arith in r)
            ∙ ap (λ (t : Bool). cond t (pos (a + b - l)) (negsuc (l - suc (a + b)))) (sym (is_false (leb l (a + b)) (lt→nleb l (a + b) (omega arith))))
        far false p q h =
            let k = q tt in
            ap pos (let r : b - suc (l - suc a) ≡ a + b - l = omega arith in r)
            ∙ ap (λ (t : Bool). cond t (pos (a + b - l)) (negsuc (l - suc (a + b)))) (sym (is_true (leb l (a + b)) (le→leb l (a + b) (omega arith))))

minus_is : (a l : ℕ) → minus a l ≡ pos a -ℤ pos l
minus_is a l = grind (arith, ints)

-- as i64
pub minus_i64 : (a l : ℕ) → a < 2 ^ 62 → l < 2 ^ 62 → to_z w64 (of_z w64 (to_z w64 (of_z w64 (to_z w64 a -ℤ pos l)))) ≡ minus a l
minus_i64 a l h k = rw minus_is (omega (arith, ints))

pred_is : (z : ℤ) → pred_ℤ z ≡ z -ℤ pos 1
pred_is (pos zero) = refl
pred_is (pos (suc n)) = grind (arith, ints)
pred_is (negsuc n) = grind (arith, ints)

pub pred_i64 : (a l : ℕ) → a < 2 ^ 62 → l < 2 ^ 62 → to_z w64 (of_z w64 (to_z w64 (of_z w64 (to_z w64 (of_z w64 (to_z w64 a -ℤ pos l)) -ℤ pos 1)))) ≡ pred_ℤ (minus a l)
pred_i64 a l h k = rw (pred_is, minus_is) (omega (arith, ints))

ratio_of : (x y : Float) (a c : ℕ) → 0 < c → HasValue x false a 1 → HasValue y false c 1 → div binary64 x y ≡ round binary64 false a c
unfolding div
ratio_of nan y a c p u v = absurd u
ratio_of (inf s) y a c p u v = absurd u
ratio_of (fin true m e) y a c p u v = absurd (true≢false u.0)
ratio_of (fin false m e) nan a c p u v = absurd v
ratio_of (fin false m e) (inf s) a c p u v = absurd v
ratio_of (fin false m e) (fin true n d) a c p u v = absurd (true≢false v.0)
ratio_of (fin false m e) (fin false zero d) a c p u v =
    absurd (let g = mul-pos p (down_pos d) in let w : 0 * up d * 1 ≡ c * down d = v.1 in let r : ⊥ = omega (arith, zero-mul (up d)) in r)
ratio_of (fin false m e) (fin false (suc n) d) a c p u v =
    let x : m * up e * 1 ≡ a * down e = u.1 in
    let y : suc n * up d * 1 ≡ c * down d = v.1 in
    rw (eqb-suc-zero n)
    (round_same binary64 false (m * up e * down d) (suc n * up d * down e) a c (mul-pos (mul-pos (zero-lt-suc n) (up_pos d)) (down_pos e)) p
    (ap (λ (z : ℕ). z * down d * c) (sym (mul-one (m * up e)) ∙ x)
    ∙ same a (down e) (down d) c
    ∙ ap (λ (z : ℕ). a * (z * down e)) (sym y ∙ mul-one (suc n * up d))))
  where
    same : (a E D c : ℕ) → a * E * D * c ≡ a * (c * D * E)
    same a E D c = simp (mul_assoc, mul_comm, mul_left_comm)

-- a quotient of two whole numbers is rounded once
pub ratio : (a c : ℕ) → a < 2 ^ 53 → 0 < c → c < 2 ^ 53 → div binary64 (of_int binary64 (pos a)) (of_int binary64 (pos c)) ≡ round binary64 false a c
ratio a c h p k = ratio_of (of_int binary64 (pos a)) (of_int binary64 (pos c)) a c p (whole a (le_of_lt h)) (whole c (le_of_lt k))
