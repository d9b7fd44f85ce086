-- "Any other has lag -dt_s over the logarithm": where dt_s is positive and finite, the lag is neither NaN nor negative.
use mathlib.Core.Path.{◌≡◌, refl, sym, subst}
use mathlib.Core.Bool.{Bool, true, false, ◌&&◌, ◌||◌, cond, true≢false}
use Prim.Native.Nat.{ℕ, zero, suc, ◌*◌, ◌≤◌, ◌<◌}
use mathlib.Core.Logic.{⊎_elim}
use native.Mathlib.Nat.{eq-or-lt_of_le}
use native.Mathlib.Omega.{arith}
use borrow.Author.Tests.{ltb-true, ltb-false, eqb-false, eq-eqb, le-ltb}
use lib.Dec.{T, ltb, eqb, eqb-suc-zero}
use lib.IntN.{ℤ, pos}
use lib.Ieee.{Float, nan, inf, fin, binary32, up, down, of_bits, neg, div, lt, le, eq, ne, fits, is_nan}
use lib.Ieee.Positive.{positive}
use Rattle.float.specs.Values.{zero32, one32}
use Rattle.float.specs.Log.{log_of}
use Rattle.units.specs.Units.{lag_of, accel_of, unless, units_at, Proper, ProperLag}
use Rattle.float.proofs.Signs.{Signed, round_signed}
use Rattle.units.proofs.LogSign.{log_minus}

zero_is : zero32 ≡ fin false 0 (pos 0)
unfolding of_bits
zero_is = refl

one_is : one32 ≡ fin false 1 (pos 0)
unfolding of_bits
one_is = refl

-- a negative finite value over one with a minus sign
over_minus : (m : ℕ) (e : ℤ) (y : Float) → Signed true y → Signed false (div binary32 (fin true (suc m) e) y)
unfolding div
over_minus m e nan p = absurd p
over_minus m e (inf true) p = refl
over_minus m e (inf false) p = absurd (true≢false (sym p))
over_minus m e (fin false n d) p = absurd (true≢false (sym p))
over_minus m e (fin true zero d) p = rw (eqb-suc-zero m) refl
over_minus m e (fin true (suc n) d) p = rw (eqb-suc-zero n) (round_signed binary32 false (suc m * up e * down d) (suc n * up d * down e))

strict : (D P : ℕ) → P * 1 ≤ 1 * D → (1 * D ≡ P * 1 → ⊥) → P < D
strict D P u v =
    let w : P ≤ D = omega arith in
    ⊎_elim (λ (q : P ≡ D). absurd (v (let z : 1 * D ≡ P * 1 = omega arith in z))) (λ (q : P < D). q) (eq-or-lt_of_le w)

-- a pole above 0 and not 1 or more
log_signed : (pole : Float) → T (fits binary32 pole) → lt (fin false 0 (pos 0)) pole ≡ true → le (fin false 1 (pos 0)) pole ≡ false → Signed true (log_of pole)
unfolding lt le eq
log_signed nan f a b = absurd (true≢false (sym a))
log_signed (inf true) f a b = absurd (true≢false (sym a))
log_signed (inf false) f a b = absurd (true≢false b)
log_signed (fin true n e) f a b = absurd (true≢false (sym a))
log_signed (fin false zero e) f a b = absurd (let h = ltb-true (0 * down e) (0 * up e * 1) a in let r : ⊥ = omega arith in r)
log_signed (fin false (suc n) e) f a b = log_minus n e f (go (ltb (1 * down e) (suc n * up e * 1)) (eqb (1 * down e) (suc n * up e * 1)) refl refl b)
  where
    go : (p q : Bool) → ltb (1 * down e) (suc n * up e * 1) ≡ p → eqb (1 * down e) (suc n * up e * 1) ≡ q → (p || (q && true)) ≡ false → suc n * up e < down e
    go true q g h b = absurd (true≢false b)
    go false true g h b = absurd (true≢false b)
    go false false g h b = strict (down e) (suc n * up e) (ltb-false (1 * down e) (suc n * up e * 1) g) (eqb-false (1 * down e) (suc n * up e * 1) h)

lag_plus : (dt pole : Float) → T (positive dt) → T (fits binary32 pole) → le one32 pole ≡ false → Signed false (lag_of dt pole)
unfolding lag_of neg
lag_plus nan pole p f b = absurd p
lag_plus (inf s) pole p f b = absurd p
lag_plus (fin true m e) pole p f b = absurd p
lag_plus (fin false zero e) pole p f b = absurd p
lag_plus (fin false (suc m) e) pole p f b = go (lt zero32 pole) refl
  where
    go : (c : Bool) → lt zero32 pole ≡ c → Signed false (cond c (div binary32 (neg (fin false (suc m) e)) (log_of pole)) zero32)
    go true g = over_minus m e (log_of pole) (log_signed pole f (subst (λ (z : Float). lt z pole ≡ true) zero_is g) (subst (λ (z : Float). le z pole ≡ false) one_is b))
    go false g = subst (Signed false) (sym zero_is) refl

proper : (x : Float) → Signed false x → Proper x
unfolding ne lt eq
proper nan p = absurd p
proper (inf true) p = absurd (true≢false p)
proper (inf false) p = record { a_number = refl; not_below = subst (λ (z : Float). lt (inf false) z ≡ false) (sym zero_is) refl }
proper (fin true m e) p = absurd (true≢false p)
proper (fin false m e) p = record {
  a_number = rw (eq-eqb (m * up e * down e) (m * up e * down e) refl) refl;
  not_below = subst (λ (z : Float). lt (fin false m e) z ≡ false) (sym zero_is) (le-ltb (m * up e * 1) (0 * down e) (omega arith));
}

nan_test : (x : Float) → ne x x ≡ is_nan x
unfolding ne eq is_nan
nan_test nan = refl
nan_test (inf true) = refl
nan_test (inf false) = refl
nan_test (fin s m e) = go s
  where
    go : (s : Bool) → ne (fin s m e) (fin s m e) ≡ false
    go true = rw (eq-eqb (m * up e * down e) (m * up e * down e) refl) refl
    go false = rw (eq-eqb (m * up e * down e) (m * up e * down e) refl) refl

-- the definition by the one test of the code
pub tested : (effect dt pole : Float) (n b : Bool) → n ≡ is_nan pole → (le one32 pole || n) ≡ b → unless b (lag_of dt pole) (accel_of effect dt pole) ≡ units_at effect dt pole
unfolding units_at
tested effect dt pole n b e t = rw (nan_test pole, ← e, t) refl

pub proper_lag : (effect dt pole : Float) → T (positive dt) → T (fits binary32 pole) → ProperLag (units_at effect dt pole)
unfolding units_at
proper_lag effect dt pole p f = go (le one32 pole) (ne pole pole) refl
  where
    go : (b c : Bool) → le one32 pole ≡ b → ProperLag (unless (b || c) (lag_of dt pole) (accel_of effect dt pole))
    go true c g = tt
    go false true g = tt
    go false false g = proper (lag_of dt pole) (lag_plus dt pole p f g)
