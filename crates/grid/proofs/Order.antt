-- The order of floats: where x is at most y and y below z, x is below z. Floats are compared as fractions, by cross products; over a common
-- denominator they are whole numbers with signs.
use Prim.Native.Nat.{ℕ, ◌+◌, ◌*◌, ◌<◌}
use mathlib.Core.Path.{◌≡◌, refl, sym, ap, ◌∙◌}
use mathlib.Core.Bool.{Bool, true, false, ◌&&◌, ◌||◌, beq}
use mathlib.Core.Logic.{◌⊎◌, inl, inr, ⊎_elim}
use native.Mathlib.Nat.{mul_right_comm, mul-lt-mul_of_pos_right, eq_of_mul-eq-mul_right, zero-mul, add-mul, mul-le-mul_right}
use native.Mathlib.Omega.{arith}
use borrow.Author.Tests.{ltb-true, ltb-false, lt-ltb, le-ltb, eqb-true, eqb-false, eq-eqb, ne_eqb}
use lib.Dec.{ltb, eqb}
use lib.Ieee.{Float, nan, inf, fin, lt, le, eq, below, level, up, down}
use lib.Ieee.Fits.{down_pos}

-- of whole numbers with signs
below_trans : (s t r : Bool) (p q w : ℕ) → below s p t q ≡ true → below t q r w ≡ true → below s p r w ≡ true
below_trans false false false p q w h g = lt-ltb p w (omega (arith, ltb-true p q h, ltb-true q w g))
below_trans false false true p q w h g = cc
below_trans false true r p q w h g = cc
below_trans true false false p q w h g = lt-ltb 0 (p + w) (omega (arith, ltb-true q w g))
below_trans true false true p q w h g = cc
below_trans true true false p q w h g = lt-ltb 0 (p + w) (omega (arith, ltb-true q p h))
below_trans true true true p q w h g = lt-ltb w p (omega (arith, ltb-true q p h, ltb-true w q g))

and_both : (a b : Bool) → a && b ≡ true → (a ≡ true) × (b ≡ true)
and_both true true h = (refl, refl)
and_both true false h = (cc, cc)
and_both false b h = (cc, cc)

level_below : (s t r : Bool) (p q w : ℕ) → level s p t q ≡ true → below t q r w ≡ true → below s p r w ≡ true
level_below s t r p q w h g = go s t r (eqb-true p q a.0) a.1 g
  where
    a : (eqb p q ≡ true) × ((beq s t || eqb p 0) ≡ true)
    a = and_both (eqb p q) (beq s t || eqb p 0) h

    go : (s t r : Bool) → p ≡ q → (beq s t || eqb p 0) ≡ true → below t q r w ≡ true → below s p r w ≡ true
    go false false r e z g = rw e g
    go true true r e z g = rw e g
    go false true false e z g = lt-ltb p w (omega (arith, eqb-true p 0 z, ltb-true 0 (q + w) g))
    go false true true e z g = absurd (omega (arith, eqb-true p 0 z, ltb-true w q g))
    go true false false e z g = lt-ltb 0 (p + w) (omega (arith, ltb-true q w g))
    go true false true e z g = cc

-- a factor above 0 on both sides changes no comparison
ltb_scale : (p q k : ℕ) → 0 < k → ltb (p * k) (q * k) ≡ ltb p q
ltb_scale p q k h = go (ltb p q) refl
  where
    go : (b : Bool) → ltb p q ≡ b → ltb (p * k) (q * k) ≡ b
    go true e = lt-ltb (p * k) (q * k) (mul-lt-mul_of_pos_right (ltb-true p q e) h)
    go false e = le-ltb (p * k) (q * k) (mul-le-mul_right k (ltb-false p q e))

eqb_scale : (p q k : ℕ) → 0 < k → eqb (p * k) (q * k) ≡ eqb p q
eqb_scale p q k h = go (eqb p q) refl
  where
    go : (b : Bool) → eqb p q ≡ b → eqb (p * k) (q * k) ≡ b
    go true e = eq-eqb (p * k) (q * k) (ap (λ (x : ℕ). x * k) (eqb-true p q e))
    go false e = ne_eqb (p * k) (q * k) (λ z. eqb-false p q e (eq_of_mul-eq-mul_right k h p q z))

below_scale : (s t : Bool) (p q k : ℕ) → 0 < k → below s (p * k) t (q * k) ≡ below s p t q
below_scale false false p q k h = ltb_scale p q k h
below_scale false true p q k h = refl
below_scale true false p q k h =
    ap (λ (x : ℕ). ltb 0 x) (sym (add-mul p q k)) ∙ ap (λ (x : ℕ). ltb x ((p + q) * k)) (sym (zero-mul k)) ∙ ltb_scale 0 (p + q) k h
below_scale true true p q k h = ltb_scale q p k h

level_scale : (s t : Bool) (p q k : ℕ) → 0 < k → level s (p * k) t (q * k) ≡ level s p t q
level_scale s t p q k h = λ i. eqb_scale p q k h i && (beq s t || (ap (λ (x : ℕ). eqb (p * k) x) (sym (zero-mul k)) ∙ eqb_scale p 0 k h) i)

-- of numbers A / a, B / b and C / c
cross : (f : Bool → ℕ → Bool → ℕ → Bool) (scale : (s t : Bool) (p q k : ℕ) → 0 < k → f s (p * k) t (q * k) ≡ f s p t q)
    → ((s t r : Bool) (p q w : ℕ) → f s p t q ≡ true → below t q r w ≡ true → below s p r w ≡ true)
    → (s t r : Bool) (A B C a b c : ℕ) → 0 < a → 0 < b → 0 < c → f s (A * b) t (B * a) ≡ true → below t (B * c) r (C * b) ≡ true → below s (A * c) r (C * a) ≡ true
cross f scale trans s t r A B C a b c ha hb hc h g =
    sym (below_scale s r (A * c) (C * a) b hb)
    ∙ trans s t r (A * c * b) (B * a * c) (C * a * b)
    (ap (λ (x : ℕ). f s x t (B * a * c)) (mul_right_comm A c b) ∙ scale s t (A * b) (B * a) c hc ∙ h)
    ((λ i. below t (mul_right_comm B a c i) r (mul_right_comm C a b i)) ∙ below_scale t r (B * c) (C * b) a ha ∙ g)

or_cases : (a b : Bool) → a || b ≡ true → (a ≡ true) ⊎ (b ≡ true)
or_cases true b h = inl refl
or_cases false b h = inr h

pub le_lt_trans : (x y z : Float) → le x y ≡ true → lt y z ≡ true → lt x z ≡ true
unfolding le lt eq
le_lt_trans nan y z h g = cc
le_lt_trans (inf s) nan z h g = cc
le_lt_trans (inf s) (inf t) nan h g = cc
le_lt_trans (inf true) (inf t) (inf false) h g = refl
le_lt_trans (inf true) (inf true) (inf true) h g = cc
le_lt_trans (inf true) (inf false) (inf true) h g = cc
le_lt_trans (inf false) (inf true) (inf r) h g = cc
le_lt_trans (inf false) (inf false) (inf r) h g = cc
le_lt_trans (inf true) (inf t) (fin r n d) h g = refl
le_lt_trans (inf false) (inf true) (fin r n d) h g = cc
le_lt_trans (inf false) (inf false) (fin r n d) h g = cc
le_lt_trans (inf s) (fin t n d) nan h g = cc
le_lt_trans (inf true) (fin t n d) (inf r) h g = g
le_lt_trans (inf false) (fin t n d) (inf r) h g = cc
le_lt_trans (inf true) (fin t n d) (fin r k c) h g = refl
le_lt_trans (inf false) (fin t n d) (fin r k c) h g = cc
le_lt_trans (fin s m e) nan z h g = cc
le_lt_trans (fin s m e) (inf t) nan h g = cc
le_lt_trans (fin s m e) (inf true) (inf r) h g = cc
le_lt_trans (fin s m e) (inf false) (inf r) h g = cc
le_lt_trans (fin s m e) (inf true) (fin r k c) h g = cc
le_lt_trans (fin s m e) (inf false) (fin r k c) h g = cc
le_lt_trans (fin s m e) (fin t n d) nan h g = cc
le_lt_trans (fin s m e) (fin t n d) (inf r) h g = g
le_lt_trans (fin s m e) (fin t n d) (fin r k c) h g = ⊎_elim
    (λ q. cross below below_scale below_trans s t r (m * up e) (n * up d) (k * up c) (down e) (down d) (down c) (down_pos e) (down_pos d) (down_pos c) q g)
    (λ q. cross level level_scale level_below s t r (m * up e) (n * up d) (k * up c) (down e) (down d) (down c) (down_pos e) (down_pos d) (down_pos c) q g)
    (or_cases (below s (m * up e * down d) t (n * up d * down e)) (level s (m * up e * down d) t (n * up d * down e)) h)

ltb_self : (p : ℕ) → ltb p p ≡ false
ltb_self p = le-ltb p p (omega arith)

pub lt_self : (x : Float) → lt x x ≡ false
unfolding lt
lt_self nan = refl
lt_self (inf true) = refl
lt_self (inf false) = refl
lt_self (fin true m e) = ltb_self (m * up e * down e)
lt_self (fin false m e) = ltb_self (m * up e * down e)

lt_le : (x y : Float) → lt x y ≡ true → le x y ≡ true
unfolding le
lt_le x y e = rw e refl

-- where y is below z and x is not, x is not below y, nor at most y
pub not_below : (x y z : Float) → lt x z ≡ false → lt y z ≡ true → lt x y ≡ false
not_below x y z h g = go (lt x y) refl
  where
    go : (b : Bool) → lt x y ≡ b → b ≡ false
    go false e = refl
    go true e = let q = le_lt_trans x y z (lt_le x y e) g in cc

pub not_at_most : (x y z : Float) → lt x z ≡ false → lt y z ≡ true → le x y ≡ false
not_at_most x y z h g = go (le x y) refl
  where
    go : (b : Bool) → le x y ≡ b → b ≡ false
    go false e = refl
    go true e = let q = le_lt_trans x y z e g in cc
