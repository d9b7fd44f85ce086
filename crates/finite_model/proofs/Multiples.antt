-- Each finite f32 is a whole multiple of the smallest one, 2^-149. What is rounded stays between any two of these multiples; sums, differences and products are said by them.
use mathlib.Core.Path.{◌≡◌, refl, sym, ap, ◌∙◌, subst}
use mathlib.Core.Logic.{⊎_elim}
use mathlib.Core.Bool.{Bool, true, false, not, cond, ◌&&◌, true≢false}
use Prim.Native.Nat.{ℕ, zero, suc, ◌+◌, ◌-◌, ◌*◌, ◌%◌, ◌^◌, ◌≤◌, ◌<◌, zero-le}
use native.Mathlib.Nat.{le_of_eq, le_trans, lt_of_not-le, le_of_suc-le-suc, not-le_of_lt, zero-mul, mul-one, mul_comm, mul_assoc, mul_right_comm, mul-mul-mul_comm, mul-le-mul_right, mul-lt-mul_of_pos_right, le_of_mul-le-mul_right, lt_of_mul-lt-mul_right, eq_of_mul-eq-mul_right, mul-pos, mul-sub, add-mul}
use native.Mathlib.Omega.{arith}
use borrow.Author.Tests.{lt-ltb, le-ltb}
use lib.Dec.{T, ltb, leb, eqb, ltb→lt, leb→le, eqb→eq, lit<}
use lib.IntN.{ℤ, pos, negsuc}
use lib.Pow.{pow-add, pow_pos, pow-lt}
use lib.Ieee.{Float, nan, inf, fin, binary32, unlike, up, down, odd, units, round, sum, add, mul, neg, le, fits}
use lib.Ieee.Exact.{HasValue, units_val, round_exact}
use lib.Ieee.Fits.{down_pos, round_is, round-fits, and_l, and_r}
use lib.Ieee.Order.{round_mono, kept, drop}
use lib.Ieee.Scale.{grid, round_val, round_same}
use Rattle.float.specs.Values.{finite}
use Rattle.float.proofs.Between.{under, no_inf}
use Rattle.std.proofs.lemmas.Bool.{cases_lt}
use Rattle.float.proofs.ExpUnit.{zero_exponent}
use Rattle.float.proofs.Signs.{Signed}
use Rattle.finite_model.specs.FiniteModel.{FiniteF32}

-- how many of the smallest make 1
abbrev pub U : ℕ
U = 2 ^ 149

-- x is finite, has the sign s, and is n of the smallest in size
abbrev pub Of : Float → Bool → ℕ → Type 0
Of x s n = HasValue x s n U

-- an f32 is n of the smallest
abbrev pub Held : ℕ → Type 0
Held n = Of (round binary32 false n U) false n

-- ---- each f32 is so many of the smallest
pub own : (m j : ℕ) → m < 2 ^ 24 → m * 2 ^ j < 2 ^ 277 → Held (m * 2 ^ j)
own m j a b = round_exact binary32 false (m * 2 ^ j) U m j (pow_pos 149) a b refl

record Limits (m : ℕ) (e : ℤ) : Type 0 where
  few : m < 2 ^ 24
  deep : down e ≤ U
  under : m * up e < 2 ^ 128 * down e

limits : (s : Bool) (m : ℕ) (e : ℤ) → T (fits binary32 (fin s m e)) → Limits m e
unfolding fits
limits s zero e t = subst (λ (z : ℤ). Limits 0 z) (sym (zero_exponent e (eqb→eq (up e * down e) 1 t))) (record { few = lit< tt; deep = pow_pos 149; under = lit< tt })
limits s (suc m) e t =
    let a : Bool = eqb (suc m % 2) 1 in
    let b : Bool = ltb (suc m) (2 ^ 24) in
    let c : Bool = leb (down e) U in
    let d : Bool = ltb (suc m * up e) (2 ^ 128 * down e) in
    record {
      few = ltb→lt (suc m) (2 ^ 24) (and_r a b (and_l (a && b) c (and_l (a && b && c) d t)));
      deep = leb→le (down e) U (and_r (a && b) c (and_l (a && b && c) d t));
      under = ltb→lt (suc m * up e) (2 ^ 128 * down e) (and_r (a && b && c) d t);
    }

-- its place: m · 2 ^ j
place : (m : ℕ) (e : ℤ) → down e ≤ U → (j : ℕ) × (m * up e * U ≡ m * 2 ^ j * down e)
place m (pos k) h = (k + 149, mul_assoc m (2 ^ k) U ∙ ap (λ (x : ℕ). m * x) (sym (pow-add 2 k 149)) ∙ sym (mul-one (m * 2 ^ (k + 149))))
place m (negsuc k) h =
    let l : suc k ≤ 149 = le_of_suc-le-suc (lt_of_not-le (λ (g : 150 ≤ suc k). not-le_of_lt (pow-lt {i = 149} {j = suc k} g) h)) in
    let e : 149 - suc k + suc k ≡ 149 = omega arith in
    (149 - suc k, ap (λ (x : ℕ). x * U) (mul-one m) ∙ ap (λ (x : ℕ). m * 2 ^ x) (sym e) ∙ ap (λ (x : ℕ). m * x) (pow-add 2 (149 - suc k) (suc k)) ∙ sym (mul_assoc m (2 ^ (149 - suc k)) (2 ^ suc k)))

pub held_of : (x : Float) (s : Bool) (n : ℕ) → T (fits binary32 x) → Of x s n → Held n
held_of nan s n t p = absurd p
held_of (inf u) s n t p = absurd p
held_of (fin u m e) s n t p =
    let l = limits u m e t in
    let q = place m e l.deep in
    let same : n ≡ m * 2 ^ q.0 = eq_of_mul-eq-mul_right (down e) (down_pos e) n (m * 2 ^ q.0) (sym p.1 ∙ q.1) in
    let wide : m * up e * U < 2 ^ 128 * down e * U = mul-lt-mul_of_pos_right l.under (pow_pos 149) in
    let w : n * down e < 2 ^ 277 * down e = subst (λ (x : ℕ). x < 2 ^ 277 * down e) p.1 (subst (λ (x : ℕ). m * up e * U < x) (mul_right_comm (2 ^ 128) (down e) U) wide) in
    subst Held (sym same) (own m q.0 l.few (subst (λ (x : ℕ). x < 2 ^ 277) same (lt_of_mul-lt-mul_right (down e) w)))

-- a finite f32 as such a number
pub record Counted (x : Float) : Type 0 where
  pub sign : Bool
  pub count : ℕ
  pub is : Of x sign count
  pub held : Held count

pub counted : (x : Float) → FiniteF32 x → Counted x
unfolding finite
counted nan f = absurd (true≢false (sym f.real))
counted (inf u) f = absurd (true≢false (sym f.real))
counted (fin u m e) f =
    let q = place m e (limits u m e f.held).deep in
    record { sign = u; count = m * 2 ^ q.0; is = (refl, q.1); held = held_of (fin u m e) u (m * 2 ^ q.0) f.held (refl, q.1) }

-- one with no minus sign
pub record NonNegative (x : Float) : Type 0 where
  pub real : FiniteF32 x
  pub plus : Signed false x

pub of_plus : (x : Float) (n : ℕ) (s : Bool) → Of x s n → Signed false x → Of x false n
of_plus nan n s p q = p
of_plus (inf u) n s p q = p
of_plus (fin u m e) n s p q = (q, p.1)

pub of_finite : (x : Float) (s : Bool) (n : ℕ) → Of x s n → finite x ≡ true
unfolding finite
of_finite nan s n p = absurd p
of_finite (inf u) s n p = absurd p
of_finite (fin u m e) s n p = refl

-- ---- rounding keeps what lies between two of them between them
ordered : (x y : Float) (a b : ℕ) → Of x false a → Of y false b → T (le x y) → a ≤ b
ordered nan y a b p q t = absurd p
ordered (inf s) y a b p q t = absurd p
ordered (fin true m e) y a b p q t = absurd (true≢false p.0)
ordered (fin false m e) y a b p q t = le_of_mul-le-mul_right (subst (λ (x : ℕ). x ≤ b * down e) p.1 (under U m e b y q t)) (down_pos e)

units_under : (q k n : ℕ) (y : Float) → Of y false n → T (le (units binary32 false q k) y) → q * 2 ^ k < 2 ^ 277
unfolding units
units_under q k n y p = go (ltb (q * 2 ^ k) (2 ^ 277)) (ltb→lt (q * 2 ^ k) (2 ^ 277))
  where
    go : (b : Bool) → (T b → q * 2 ^ k < 2 ^ 277) → T (le (cond b (odd 25 false q k 149) (inf false)) y) → q * 2 ^ k < 2 ^ 277
    go true h t = h tt
    go false h t = absurd (no_inf U n y p t)

pub grid_under : (a c n : ℕ) → 0 < c → Held n → a * U ≤ n * c → grid binary32 a c < 2 ^ 277
grid_under a c n C h l =
    units_under (kept 24 (a * U) c) (drop 24 (a * U) c) n (round binary32 false n U) h
    (subst (λ (z : Float). T (le z (round binary32 false n U))) (round_is binary32 false a c) (round_mono binary32 a c n U C (pow_pos 149) l))

pub grid_le : (a c n : ℕ) → 0 < c → Held n → a * U ≤ n * c → grid binary32 a c ≤ n
grid_le a c n C h l =
    ordered (round binary32 false a c) (round binary32 false n U) (grid binary32 a c) n (round_val binary32 a c (grid_under a c n C h l)) h
    (round_mono binary32 a c n U C (pow_pos 149) l)

pub grid_ge : (a c n : ℕ) → 0 < c → Held n → n * c ≤ a * U → grid binary32 a c < 2 ^ 277 → n ≤ grid binary32 a c
grid_ge a c n C h l f =
    ordered (round binary32 false n U) (round binary32 false a c) n (grid binary32 a c) h (round_val binary32 a c f)
    (round_mono binary32 n U a c (pow_pos 149) C l)

pub round_of : (s : Bool) (a c : ℕ) → grid binary32 a c < 2 ^ 277 → Of (round binary32 s a c) s (grid binary32 a c)
round_of s a c h =
    subst (λ (z : Float). Of z s (grid binary32 a c)) (sym (round_is binary32 s a c)) (units_val binary32 s (kept 24 (a * U) c) (drop 24 (a * U) c) h)

-- ---- sums and differences
sub_mul : (m n k : ℕ) → (m - n) * k ≡ m * k - n * k
sub_mul m n k = mul_comm (m - n) k ∙ mul-sub k m n ∙ ap (λ (x : ℕ). x - k * n) (mul_comm k m) ∙ ap (λ (x : ℕ). m * k - x) (mul_comm k n)

-- A / c and B / c, which are a and b of the smallest
module _ (A B c a b : ℕ) (C : 0 < c) (p : A * U ≡ a * c) (q : B * U ≡ b * c) where
  compares : ltb A B ≡ ltb a b
  compares =
      ⊎_elim
      (λ (h : a < b). lt-ltb A B (lt_of_mul-lt-mul_right U (subst (λ (x : ℕ). x < B * U) (sym p) (subst (λ (x : ℕ). a * c < x) (sym q) (mul-lt-mul_of_pos_right h C)))) ∙ sym (lt-ltb a b h))
      (λ (h : b ≤ a). le-ltb A B (le_of_mul-le-mul_right (le_trans (le_of_eq q) (le_trans (mul-le-mul_right c h) (le_of_eq (sym p)))) (pow_pos 149)) ∙ sym (le-ltb a b h))
      (cases_lt a b)

  plus : (s : Bool) → round binary32 s (A + B) c ≡ round binary32 s (a + b) U
  plus s = round_same binary32 s (A + B) c (a + b) U C (pow_pos 149) (add-mul A B U ∙ ap (λ (x : ℕ). x + B * U) p ∙ ap (λ (x : ℕ). a * c + x) q ∙ sym (add-mul a b c))

  minus : (s : Bool) → round binary32 s (A - B) c ≡ round binary32 s (a - b) U
  minus s = round_same binary32 s (A - B) c (a - b) U C (pow_pos 149) (sub_mul A B U ∙ ap (λ (x : ℕ). x - B * U) p ∙ ap (λ (x : ℕ). a * c - x) q ∙ sym (sub_mul a b c))

sum_is : (A B c a b : ℕ) (s t : Bool) → 0 < c → A * U ≡ a * c → B * U ≡ b * c → sum binary32 s A t B c ≡ sum binary32 s a t b U
unfolding sum
sum_is A B c a b s t C p q = rw (compares A B c a b C p q, compares B A c b a C q p, plus A B c a b C p q s, minus B A c b a C q p t, minus A B c a b C p q (s && ltb b a))

scaled : (X dx dy a : ℕ) → X * U ≡ a * dx → X * dy * U ≡ a * (dx * dy)
scaled X dx dy a p = mul_right_comm X dy U ∙ ap (λ (x : ℕ). x * dy) p ∙ mul_assoc a dx dy

add_is : (x y : Float) (s t : Bool) (a b : ℕ) → Of x s a → Of y t b → add binary32 x y ≡ sum binary32 s a t b U
unfolding add
add_is nan y s t a b p q = absurd p
add_is (inf u) y s t a b p q = absurd p
add_is (fin u m e) nan s t a b p q = absurd q
add_is (fin u m e) (inf v) s t a b p q = absurd q
add_is (fin u m e) (fin v n d) s t a b p q =
    sum_is (m * up e * down d) (n * up d * down e) (down e * down d) a b u v (mul-pos (down_pos e) (down_pos d))
    (scaled (m * up e) (down e) (down d) a p.1) (scaled (n * up d) (down d) (down e) b q.1 ∙ ap (λ (x : ℕ). b * x) (mul_comm (down d) (down e)))
    ∙ ap (λ (z : Bool). sum binary32 z a v b U) p.0
    ∙ ap (λ (z : Bool). sum binary32 s a z b U) q.0

pub add_plus : (x y : Float) (a b : ℕ) → Of x false a → Of y false b → add binary32 x y ≡ round binary32 false (a + b) U
unfolding sum
add_plus x y a b p q = add_is x y false false a b p q

pub add_minus : (x y : Float) (a b : ℕ) → Of x false a → Of y true b → b ≤ a → add binary32 x y ≡ round binary32 false (a - b) U
unfolding sum
add_minus x y a b p q h = add_is x y false true a b p q ∙ rw (le-ltb a b h)

pub add_under : (x y : Float) (a b : ℕ) → Of x false a → Of y true b → a < b → add binary32 x y ≡ round binary32 true (b - a) U
unfolding sum
add_under x y a b p q h = add_is x y false true a b p q ∙ rw (lt-ltb a b h)

pub neg_of : (x : Float) (s : Bool) (n : ℕ) → Of x s n → Of (neg x) (not s) n
unfolding neg
neg_of nan s n p = p
neg_of (inf u) s n p = p
neg_of (fin u m e) s n p = (ap not p.0, p.1)

-- ---- products
pub mul_is : (x y : Float) (s t : Bool) (a b : ℕ) → Of x s a → Of y t b → mul binary32 x y ≡ round binary32 (unlike s t) (a * b) (U * U)
unfolding mul
mul_is nan y s t a b p q = absurd p
mul_is (inf u) y s t a b p q = absurd p
mul_is (fin u m e) nan s t a b p q = absurd q
mul_is (fin u m e) (inf v) s t a b p q = absurd q
mul_is (fin u m e) (fin v n d) s t a b p q =
    round_same binary32 (unlike u v) (m * up e * (n * up d)) (down e * down d) (a * b) (U * U) (mul-pos (down_pos e) (down_pos d)) (mul-pos (pow_pos 149) (pow_pos 149))
    (mul-mul-mul_comm (m * up e) (n * up d) U U ∙ ap (λ (x : ℕ). x * (n * up d * U)) p.1 ∙ ap (λ (x : ℕ). a * down e * x) q.1 ∙ mul-mul-mul_comm a (down e) b (down d))
    ∙ ap (λ (z : Bool). round binary32 (unlike z v) (a * b) (U * U)) p.0
    ∙ ap (λ (z : Bool). round binary32 (unlike s z) (a * b) (U * U)) q.0

-- ---- the f32 of sign s, from lo to hi in size
pub record Within (s : Bool) (lo hi : ℕ) (x : Float) : Type 0 where
  pub count : ℕ
  pub is : Of x s count
  pub held : T (fits binary32 x)
  pub from : lo ≤ count
  pub to : count ≤ hi

pub zero_held : Held 0
zero_held = own 0 0 (lit< tt) (lit< tt)

from_zero : (a c : ℕ) → 0 * c ≤ a
from_zero a c = le_trans (le_of_eq (zero-mul c)) zero-le

-- what lies between two multiples that are f32 is rounded to one between them
round_within : (s : Bool) (a c lo hi : ℕ) → 0 < c → Held lo → Held hi → lo * c ≤ a * U → a * U ≤ hi * c → Within s lo hi (round binary32 s a c)
round_within s a c lo hi C p q l h =
    let f = grid_under a c hi C q h in
    record { count = grid binary32 a c; is = round_of s a c f; held = round-fits binary32 s a c; from = grid_ge a c lo C p l f; to = grid_le a c hi C q h }

pub whole_within : (lo hi v : ℕ) → Held lo → Held hi → lo ≤ v → v ≤ hi → Within false lo hi (round binary32 false v U)
whole_within lo hi v p q l h = round_within false v U lo hi (pow_pos 149) p q (mul-le-mul_right U l) (mul-le-mul_right U h)

pub round_under : (s : Bool) (a c k : ℕ) → 0 < c → Held k → a * U ≤ k * c → Within s 0 k (round binary32 s a c)
round_under s a c k C h l = round_within s a c 0 k C zero_held h (from_zero (a * U) c) l

-- a product that is at most k before it is rounded
pub mul_under : (x y : Float) (s t : Bool) (a b k : ℕ) → Of x s a → Of y t b → Held k → a * b ≤ k * U → Within (unlike s t) 0 k (mul binary32 x y)
mul_under x y s t a b k p q h l =
    subst (Within (unlike s t) 0 k) (sym (mul_is x y s t a b p q))
    (round_under (unlike s t) (a * b) (U * U) k (mul-pos (pow_pos 149) (pow_pos 149)) h (le_trans (mul-le-mul_right U l) (le_of_eq (mul_assoc k U U))))
