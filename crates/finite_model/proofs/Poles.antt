-- The mean tick is finite where the duration is, and every pole of the grid lies in 0 to 1: a lag is above 0, so the tick over it is not below 0.
use mathlib.Core.Path.{◌≡◌, refl, sym, ap, ◌∙◌, subst}
use mathlib.Core.Bool.{true, false, ◌&&◌, ◌||◌, true≢false}
use Prim.Native.Nat.{ℕ, zero, suc, ◌+◌, ◌*◌, ◌≤◌, zero-le}
use native.Mathlib.Nat.{le_of_eq, le_trans, lt_of_lt_of_le, zero-mul, mul-one, one-mul, mul_assoc, mul_comm, mul_right_comm, mul-le-mul_left, mul-le-mul_right, mul-pos, le_of_mul-le-mul_right}
use native.Mathlib.Omega.{arith}
use borrow.Author.Tests.{lt-ltb, ne_eqb}
use lib.Dec.{T, ltb, eqb, ltb→lt, lit<}
use lib.IntN.{ℤ, pos, negsuc}
use lib.Ieee.{Float, nan, inf, fin, binary32, binary64, up, down, round, of_bits, of_int, mul, div, neg, lt, le, fits}
use lib.Ieee.Fits.{down_pos, round-fits, div-fits, nan-fits, inf-fits, cond-fits}
use lib.Ieee.Order.{round_mono}
use lib.Ieee.Positive.{above, above_of_le, le→cross, mul_mono}
use Rattle.float.specs.Values.{zero32, one32, whole32, finite}
use Rattle.float.specs.Narrow.{narrowed}
use Rattle.float.specs.Exp.{exp_of}
use Rattle.float.proofs.Signs.{Signed, round_signed}
use Rattle.float.proofs.Unit.{Small}
use Rattle.float.proofs.ExpUnit.{exp_small}
use Rattle.lags.specs.Lags.{least_lag, lag_ratio, lag_of, pole_of}
use Rattle.integrated.specs.Integrated.{mean_dt}
use Rattle.finite_model.proofs.Multiples.{U, Of, Held, counted, NonNegative, of_plus, Within, round_under}
use Rattle.finite_model.proofs.Trials.{ZeroToOne}

-- ---- a quotient by 1 or more is no larger
abbrev FromOne : Float → Type 0
FromOne nan = ⊥
FromOne (inf s) = s ≡ false
FromOne (fin s n d) = (s ≡ false) × (down d ≤ n * up d)

not_zero : (n : ℕ) (d : ℤ) → down d ≤ n * up d → n ≡ 0 → ⊥
not_zero n d h e = let r : ⊥ = omega (arith, down_pos d, subst (λ (x : ℕ). down d ≤ x) (ap (λ (x : ℕ). x * up d) e ∙ zero-mul (up d)) h) in r

div_under : (x y : Float) (k : ℕ) → Of x false k → Held k → FromOne y → Within false 0 k (div binary32 x y)
unfolding div fits
div_under nan y k p h q = absurd p
div_under (inf u) y k p h q = absurd p
div_under (fin true m e) y k p h q = absurd (true≢false p.0)
div_under (fin false m e) nan k p h q = absurd q
div_under (fin false m e) (inf true) k p h q = absurd (true≢false q)
div_under (fin false m e) (inf false) k p h q = record { count = 0; is = (refl, refl); held = tt; from = zero-le; to = zero-le }
div_under (fin false m e) (fin true n d) k p h q = absurd (true≢false q.0)
div_under (fin false m e) (fin false n d) k p h q =
    let a = m * up e * down d in
    let c = n * up d * down e in
    let w : a * U ≤ k * c =
    le_trans (le_of_eq (mul_right_comm (m * up e) (down d) U ∙ ap (λ (x : ℕ). x * down d) p.1 ∙ mul_assoc k (down e) (down d)))
    (mul-le-mul_left k (le_trans (mul-le-mul_left (down e) q.1) (le_of_eq (mul_comm (down e) (n * up d))))) in
    rw (ne_eqb n 0 (not_zero n d q.1)) (round_under false a c k (mul-pos (lt_of_lt_of_le (down_pos d) q.1) (down_pos e)) h w)

one_rounds : round binary32 false 1 1 ≡ fin false 1 (pos 0)
unfolding round
one_rounds = refl

from_one : (y : Float) → T (le (fin false 1 (pos 0)) y) → FromOne y
from_one y t = go y t (above_of_le (fin false 1 (pos 0)) y tt t)
  where
    go : (y : Float) → T (le (fin false 1 (pos 0)) y) → T (above y) → FromOne y
    go nan t a = a
    go (inf true) t a = absurd a
    go (inf false) t a = refl
    go (fin true n d) t a = absurd a
    go (fin false n d) t a = (refl, let c = le→cross (fin false 1 (pos 0)) (fin false n d) tt a t in omega arith)

whole_from_one : (n : ℕ) → 1 ≤ n → FromOne (whole32 n)
unfolding of_int
whole_from_one n h =
    from_one (round binary32 false n 1) (subst (λ (z : Float). T (le z (round binary32 false n 1))) one_rounds (round_mono binary32 1 1 n 1 (lit< tt) (lit< tt) (let r : 1 * 1 ≤ n * 1 = omega arith in r)))

-- ---- the mean tick
pub mean_tick : (duration : Float) (n : ℕ) → NonNegative duration → 1 ≤ n → (k : ℕ) × Within false 0 k (mean_dt duration n)
mean_tick duration n p h =
    let c = counted duration p.real in
    (c.count, div_under duration (whole32 n) c.count (of_plus duration c.count c.sign c.is p.plus) c.held (whole_from_one n h))

-- ---- the lags are above 0
lag_low : (i : ℕ) → T (le least_lag (lag_of i))
unfolding lag_of
lag_low zero = first
  where
    first : T (le least_lag least_lag)
    first = unfold le of_bits in tt
lag_low (suc i) = longer (lag_of i) (lag_low i)
  where
    same : mul binary32 least_lag one32 ≡ least_lag
    same = unfold mul of_bits in refl

    grown : (y : Float) → T (le least_lag y) → T (above y) → T (le least_lag (mul binary32 y lag_ratio))
    grown nan t a = absurd a
    grown (inf true) t a = absurd a
    grown (inf false) t a = unfold mul le of_bits in tt
    grown (fin true m e) t a = absurd a
    grown (fin false m e) t a =
        subst (λ (z : Float). T (le z (mul binary32 (fin false m e) lag_ratio))) same
        (mul_mono binary32 least_lag (fin false m e) one32 lag_ratio (unfold of_bits in tt) a (unfold of_bits in tt) (unfold of_bits in tt) t (unfold le of_bits in tt))

    longer : (y : Float) → T (le least_lag y) → T (le least_lag (mul binary32 y lag_ratio))
    longer y t = grown y t (above_of_le least_lag y (unfold of_bits in tt) t)

lag_above : (i : ℕ) → T (above (lag_of i))
lag_above i = above_of_le least_lag (lag_of i) (unfold of_bits in tt) (lag_low i)

-- ---- minus the tick over a lag is not above 0
minus_over : (dt lag : Float) (n : ℕ) → Of dt false n → T (above lag) → Signed true (div binary32 (neg dt) lag)
unfolding div neg
minus_over nan lag n p a = absurd p
minus_over (inf u) lag n p a = absurd p
minus_over (fin true m e) lag n p a = absurd (true≢false p.0)
minus_over (fin false m e) nan n p a = absurd a
minus_over (fin false m e) (inf true) n p a = absurd a
minus_over (fin false m e) (inf false) n p a = refl
minus_over (fin false m e) (fin true k d) n p a = absurd a
minus_over (fin false m e) (fin false k d) n p a =
    rw (ne_eqb k 0 (λ e. let l = ltb→lt 0 k a in omega arith)) (round_signed binary32 true (m * up e * down d) (k * up d * down e))

under_zero : (a b : ℕ) → b ≡ 0 → T (ltb 0 (a + b) || (eqb a b && (false || eqb a 0)))
under_zero zero b e = subst (λ (x : ℕ). T (ltb 0 (0 + x) || (eqb 0 x && (false || eqb 0 0)))) (sym e) tt
under_zero (suc a) b e = rw (lt-ltb 0 (suc a + b) (omega arith)) tt

minus_low : (x : Float) → Signed true x → T (le x zero32)
unfolding le of_bits
minus_low nan p = absurd p
minus_low (inf true) p = tt
minus_low (inf false) p = absurd (true≢false (sym p))
minus_low (fin false m e) p = absurd (true≢false (sym p))
minus_low (fin true m e) p = under_zero (m * up e * 1) (0 * 1 * down e) (omega arith)

-- ---- 0 to 1
pub narrowed_fits : (x : Float) → T (fits binary32 (narrowed x))
unfolding narrowed
narrowed_fits nan = nan-fits binary32
narrowed_fits (inf s) = inf-fits binary32 s
narrowed_fits (fin s m e) = round-fits binary32 s (m * up e) (down e)

zero_fits : T (fits binary32 zero32)
unfolding fits of_bits
zero_fits = tt

exp_fits : (x : Float) → T (fits binary32 (exp_of x))
unfolding exp_of
exp_fits x = cond-fits binary32 (lt x (of_int binary64 (negsuc 103))) zero32 _ zero_fits (narrowed_fits _)

zero_to_one : (y : Float) → Small false y → T (fits binary32 y) → ZeroToOne y
unfolding finite
zero_to_one nan p f = absurd p
zero_to_one (inf s) p f = absurd p
zero_to_one (fin s m e) p f =
    let c = counted (fin s m e) (record { real = refl; held = f }) in
    let is : Of (fin s m e) false c.count = of_plus (fin s m e) c.count c.sign c.is p.0 in
    let small : m * up e ≤ down e = le_trans (le_of_eq (sym (mul-one (m * up e)))) (le_trans p.2 (le_of_eq (one-mul (down e)))) in
    let to : c.count * down e ≤ U * down e = le_trans (le_of_eq (sym is.1)) (le_trans (mul-le-mul_right U small) (le_of_eq (mul_comm (down e) U))) in
    record { count = c.count; is = is; held = f; from = zero-le; to = le_of_mul-le-mul_right to (down_pos e) }

pub zero_in : ZeroToOne zero32
unfolding of_bits
zero_in = record { count = 0; is = (refl, refl); held = zero_fits; from = zero-le; to = zero-le }

pub pole_in : (dt : Float) (k : ℕ) → Within false 0 k dt → (i : ℕ) → ZeroToOne (pole_of dt i)
unfolding pole_of
pole_in dt k t zero = zero_in
pole_in dt k t (suc i) =
    let x = div binary32 (neg dt) (lag_of i) in
    zero_to_one (exp_of x) (exp_small x (div-fits binary32 (neg dt) (lag_of i)) (minus_low x (minus_over dt (lag_of i) t.count t.is (lag_above i)))) (exp_fits x)
