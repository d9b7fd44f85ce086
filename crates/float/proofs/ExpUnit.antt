-- "Its answer lies in 0 to 1": exp of an x ≤ 0. From -104 on x/1024 lies from -1 to 0, so each term of the series is 1 less a part of 1,
-- and squaring and narrowing stay in 0 to 1.
use Rattle.std.proofs.Common.{◌≡◌, ℕ, zero, suc, ◌-◌, ◌*◌, ◌^◌, ◌<◌, ◌≤◌, Bool, true, false, cond, T, ℤ, pos, negsuc, sym, refl, ap, ◌∙◌, subst, true≢false, zero-lt-suc, mul-pos, pow-suc, arith, lit<, lit≤, eqb→eq, pow_pos, ltb-false, le-ltb, ne_eqb}
use lib.Ieee.{Float, nan, inf, fin, binary32, binary64, up, down, of_bits, of_int, add, mul, div, lt, le, fits}
use lib.Ieee.Exact.{HasValue}
use lib.Ieee.Fits.{up_pos, down_pos}
use lib.Ieee.Order.{le_of_values}
use Rattle.float.specs.Values.{zero32, one32, one64}
use Rattle.float.specs.Narrow.{narrowed}
use Rattle.float.specs.Exp.{horner, squared, exp_of, InUnit}
use Rattle.float.proofs.Unit.{Small, one, whole, round_small, mul_small, div_small, add_small}

-- ---- the steps
one_is : one64 ≡ one
unfolding of_bits
one_is = refl

horner_small : (t : Float) → Small true t → (k : ℕ) → k ≤ 8 → Small false (horner t k)
unfolding horner
horner_small t p zero h = subst (Small false) (sym one_is) (refl, lit≤ tt, lit≤ tt)
horner_small t p (suc k) h =
    let n = 8 - k in
    let q = div binary64 t (of_int binary64 (pos n)) in
    let q_small : Small true q = div_small binary64 t (of_int binary64 (pos n)) n (omega arith) p (whole n (let r : n ≤ 2 ^ 53 = omega arith in r)) in
    let term = mul binary64 q (horner t k) in
    subst (λ (o : Float). Small false (add binary64 o term)) (sym one_is)
    (add_small binary64 term (mul_small binary64 true q (horner t k) q_small (horner_small t p k (omega arith))))

squared_small : (k : ℕ) (x : Float) → Small false x → Small false (squared k x)
unfolding squared
squared_small zero x p = p
squared_small (suc k) x p = squared_small k (mul binary64 x x) (mul_small binary64 false x x p p)

narrowed_small : (x : Float) → Small false x → Small false (narrowed x)
unfolding narrowed
narrowed_small nan p = absurd p
narrowed_small (inf s) p = absurd p
narrowed_small (fin true m e) p = absurd (true≢false p.0)
narrowed_small (fin false m e) p = round_small binary32 false (m * up e) (down e) (down_pos e) (omega (arith, p.2))

-- ---- x from -104 to -0
limit : of_int binary64 (negsuc 103) ≡ fin true 13 (pos 3)
unfolding of_int
limit = refl

scale : of_int binary64 (pos 1024) ≡ fin false 1 (pos 10)
unfolding of_int
scale = refl

scaled : (m : ℕ) (e : ℤ) → lt (fin true m e) (of_int binary64 (negsuc 103)) ≡ false → Small true (div binary64 (fin true m e) (of_int binary64 (pos 1024)))
unfolding lt div
scaled m e h =
    let l = ltb-false (13 * 2 ^ 3 * down e) (m * up e * 1) (ap (lt (fin true m e)) (sym limit) ∙ h) in
    subst (λ (y : Float). Small true (div binary64 (fin true m e) y)) (sym scale)
    (round_small binary64 true (m * up e * 1) (1 * 2 ^ 10 * down e) (let r : 0 < 1 * 2 ^ 10 * down e = omega (arith, down_pos e) in r) (omega arith))

zero_small : Small false zero32
unfolding of_bits
zero_small = (refl, lit≤ tt, lit≤ tt)

negative_small : (m : ℕ) (e : ℤ) → Small false (exp_of (fin true m e))
unfolding exp_of
negative_small m e = go (lt (fin true m e) (of_int binary64 (negsuc 103))) refl
  where
    go : (b : Bool) → lt (fin true m e) (of_int binary64 (negsuc 103)) ≡ b
        → Small false (cond b zero32 (narrowed (squared 10 (horner (div binary64 (fin true m e) (of_int binary64 (pos 1024))) 8))))
    go true h = zero_small
    go false h =
        let t = div binary64 (fin true m e) (of_int binary64 (pos 1024)) in
        narrowed_small (squared 10 (horner t 8)) (squared_small 10 (horner t 8) (horner_small t (scaled m e h) 8 (lit≤ tt)))

-- ---- the ends: -infinity, and +0
infinite_small : Small false (exp_of (inf true))
unfolding exp_of lt of_int of_bits
infinite_small = (refl, lit≤ tt, lit≤ tt)

nothing_small : Small false (exp_of (fin false 0 (pos 0)))
unfolding exp_of lt of_int div mul add horner squared narrowed of_bits
nothing_small = (refl, lit≤ tt, lit≤ tt)

pub zero_exponent : (e : ℤ) → up e * down e ≡ 1 → e ≡ pos 0
zero_exponent (pos zero) h = refl
zero_exponent (pos (suc k)) h = absurd (let r : ⊥ = omega (arith, h, pow-suc 2 k, pow_pos k) in r)
zero_exponent (negsuc k) h = absurd (let r : ⊥ = omega (arith, h, pow-suc 2 k, pow_pos k) in r)

-- what is above 0 is not at most 0
above : (m : ℕ) (e : ℤ) → T (le (fin false (suc m) e) zero32) → ⊥
unfolding le of_bits
above m e h =
    let a = suc m * up e * 1 in
    let b = 0 * 1 * down e in
    let p : b < a = omega (arith, mul-pos (zero-lt-suc m) (up_pos e)) in
    rw (le-ltb a b (omega arith), ne_eqb a b (λ (i : a ≡ b). omega arith)) at h

pub exp_small : (x : Float) → T (fits binary32 x) → T (le x zero32) → Small false (exp_of x)
unfolding fits le of_bits
exp_small nan f h = absurd h
exp_small (inf true) f h = infinite_small
exp_small (inf false) f h = absurd h
exp_small (fin true m e) f h = negative_small m e
exp_small (fin false zero e) f h = subst (λ (z : ℤ). Small false (exp_of (fin false 0 z))) (sym (zero_exponent e (eqb→eq (up e * down e) 1 f))) nothing_small
exp_small (fin false (suc m) e) f h = absurd (above m e h)

-- ---- the law
zero_value : HasValue zero32 false 0 1
unfolding of_bits
zero_value = (refl, refl)

one_value : HasValue one32 false 1 1
unfolding of_bits
one_value = (refl, refl)

in_unit : (y : Float) → Small false y → InUnit y
in_unit nan p = absurd p
in_unit (inf s) p = absurd p
in_unit (fin true m e) p = absurd (true≢false p.0)
in_unit (fin false m e) p = record {
  from_zero = le_of_values zero32 (fin false m e) 0 1 (m * up e) (down e) (lit< tt) (down_pos e) zero_value (refl, refl) (let r : 0 * down e ≤ m * up e * 1 = omega arith in r);
  to_one = le_of_values (fin false m e) one32 (m * up e) (down e) 1 1 (down_pos e) (lit< tt) (refl, refl) one_value (let r : m * up e * 1 ≤ 1 * down e = p.2 in r);
}

-- exp of any f32 that is at most 0
pub exp_unit : (x : Float) → T (fits binary32 x) → T (le x zero32) → InUnit (exp_of x)
exp_unit x f h = in_unit (exp_of x) (exp_small x f h)
