-- The logarithm of what lies between 0 and 1 has a minus sign.
-- The bounds are in units of 2^-30: 2^26 is 1/16, 100663296 3/32, 268435456 1/4, 318767104 304/1024, 536870912 1/2, 717225984 684/1024,
-- 805306368 3/4, 1073741760 1 - 2^-24, 1207959552 9/8, 1610612736 3/2, 1879048192 7/4, 2684354560 5/2; ln 2 lies between 744261117 and 744261118.
use mathlib.Core.Path.{◌≡◌, refl, sym, subst}
use mathlib.Core.Bool.{Bool, true, false, cond, ◌&&◌, true≢false}
use Prim.Native.Nat.{ℕ, zero, suc, ◌+◌, ◌-◌, ◌*◌, ◌%◌, ◌^◌, ◌≤◌, ◌<◌}
use native.Mathlib.Nat.{le_of_lt, le_trans, lt_of_le_of_lt, le_of_eq, mul-le-mul_right, mul-lt-mul_of_pos_right, lt_of_mul-lt-mul_right, lt_of_lt_of_le, mul-pos, mul_comm, mul_assoc, mul_left_comm, mul-one, zero-lt-suc, pow-suc, lt_of_not-le, not-le_of_lt, le_of_suc-le-suc}
use native.Mathlib.Omega.{arith}
use borrow.Author.Tests.{lt-ltb, le-ltb, leb-true, leb-false}
use lib.Dec.{T, ltb, leb, eqb, ltb→lt, leb→le, lit<, lit≤}
use lib.Pow.{pow_pos, pow-lt, pow_mono}
use lib.IntN.{ℤ, pos, negsuc, pred_ℤ}
use lib.Ieee.{Float, nan, inf, fin, binary32, binary64, unlike, up, down, of_bits, of_int, round, neg, sum, add, sub, mul, div, size, fits}
use lib.Ieee.Digits.{size-lt, size-le, size_reaches}
use lib.Ieee.Fits.{down_pos, and_l, and_r}
use Rattle.float.specs.Values.{one64}
use Rattle.float.specs.Narrow.{narrowed}
use Rattle.float.specs.Log.{ln2, two64, log_sum, z_of, log_part, log_from, log_split, log_at, wide_log, log_of}
use Rattle.float.proofs.Between.{In, round_in, mul_in, div_in, add_in}
use Rattle.float.proofs.Signs.{Signed, round_signed}

wider : (s : Bool) (lo hi top : ℕ) (x : Float) → hi ≤ top → In 30 s lo hi x → In 30 s lo top x
wider s lo hi top nan h p = p
wider s lo hi top (inf t) h p = p
wider s lo hi top (fin t m e) h p = (p.0, p.1, le_trans p.2 (mul-le-mul_right (down e) h))

one_is : one64 ≡ fin false 1 (pos 0)
unfolding of_bits
one_is = refl

two_is : two64 ≡ fin false 1 (pos 1)
unfolding of_bits
two_is = refl

one_in : In 30 false (2 ^ 30) (2 ^ 30) one64
one_in = subst (In 30 false (2 ^ 30) (2 ^ 30)) (sym one_is) (refl, lit≤ tt, lit≤ tt)

two_in : In 30 false (2 ^ 31) (2 ^ 31) two64
two_in = subst (In 30 false (2 ^ 31) (2 ^ 31)) (sym two_is) (refl, lit≤ tt, lit≤ tt)

ln2_in : In 30 false 744261117 744261118 ln2
unfolding of_bits
ln2_in = (refl, lit≤ tt, lit≤ tt)

-- ---- the sum, from 1/16 to 9/8 where q is at most 3/32
inverse : (n : ℕ) → 1 ≤ n → n ≤ 15 → In 30 false (2 ^ 26) (2 ^ 30) (div binary64 one64 (of_int binary64 (pos n)))
unfolding of_int
inverse n h k =
    div_in binary64 30 (lit≤ tt) false false (2 ^ 30) (2 ^ 30) (2 ^ 30) 16106127360 (2 ^ 26) (2 ^ 30) (lit< tt) (lit< tt) one64 (round binary64 false n 1) (lit< tt) (lit≤ tt) (lit≤ tt) one_in
    (round_in binary64 30 (lit≤ tt) false n 1 (2 ^ 30) 16106127360 (lit< tt) (lit< tt) (lit< tt) (omega arith) (omega arith))

sum_in : (q : Float) → In 30 false 0 100663296 q → (j : ℕ) → j ≤ 7 → In 30 false (2 ^ 26) 1207959552 (log_sum q j)
unfolding log_sum
sum_in q p zero h = wider false (2 ^ 26) (2 ^ 30) 1207959552 (div binary64 one64 (of_int binary64 (pos 15))) (lit≤ tt) (inverse 15 (lit≤ tt) (lit≤ tt))
sum_in q p (suc j) h =
    add_in binary64 30 (lit≤ tt) false false (2 ^ 26) (2 ^ 30) 0 113246208 (2 ^ 26) 1207959552 (lit< tt) (lit< tt) _ _ (lit≤ tt) (lit≤ tt) (inverse (13 - 2 * j) (omega arith) (omega arith))
    (mul_in binary64 30 (lit≤ tt) false false 0 100663296 (2 ^ 26) 1207959552 0 113246208 (lit< tt) (lit< tt) false q (log_sum q j) refl (lit≤ tt) (lit≤ tt) p (sum_in q p j (omega arith)))

-- ---- 2·z·sum has the sign of z, and is at most 684/1024 where z is at most 304/1024
same : (t : Bool) → unlike t t ≡ false
same true = refl
same false = refl

left : (t : Bool) → unlike false t ≡ t
left true = refl
left false = refl

right : (t : Bool) → unlike t false ≡ t
right true = refl
right false = refl

part_in : (t : Bool) (zl tl pl : ℕ) (z : Float) → tl < 2 ^ 53 → pl < 2 ^ 53 → tl * (2 ^ 30) ≤ 2 ^ 31 * zl → pl * (2 ^ 30) ≤ tl * 2 ^ 26 → In 30 t zl 318767104 z → In 30 t pl 717225984 (log_part z)
unfolding log_part
part_in t zl tl pl z a b h k p =
    mul_in binary64 30 (lit≤ tt) t false tl 637534208 (2 ^ 26) 1207959552 pl 717225984 b (lit< tt) t _ _ (right t) k (lit≤ tt)
    (mul_in binary64 30 (lit≤ tt) false t (2 ^ 31) (2 ^ 31) zl 318767104 tl 637534208 a (lit< tt) t two64 z (left t) h (lit≤ tt) two_in p)
    (sum_in (mul binary64 z z) (mul_in binary64 30 (lit≤ tt) t t zl 318767104 zl 318767104 0 100663296 (lit< tt) (lit< tt) false z z (same t) (zero-le zl) (lit≤ tt) p p) 7 (lit≤ tt))
  where
    zero-le : (n : ℕ) → 0 * (2 ^ 30) ≤ n * n
    zero-le n = omega arith

-- ---- z, of an m from 3/4 to 3/2
pub record Sized (hi : ℕ) (x : Float) : Type 0 where
  pub sign : Bool
  pub is : In 30 sign 0 hi x

less_one : (m : Float) → In 30 false 805306368 1610612736 m → Sized 536870912 (sub binary64 m one64)
unfolding sub add neg sum
less_one nan p = absurd p
less_one (inf s) p = absurd p
less_one (fin true n e) p = absurd (true≢false p.0)
less_one (fin false n e) p = subst (λ (o : Float). Sized 536870912 (add binary64 (fin false n e) (neg o))) (sym one_is) (go (ltb (n * up e * 1) (1 * down e)) refl)
  where
    go : (b : Bool) → ltb (n * up e * 1) (1 * down e) ≡ b → Sized 536870912 (cond b (round binary64 true (1 * down e - n * up e * 1) (down e * 1)) (round binary64 (false && ltb (1 * down e) (n * up e * 1)) (n * up e * 1 - 1 * down e) (down e * 1)))
    go true h = record { sign = true; is = round_in binary64 30 (lit≤ tt) true (1 * down e - n * up e * 1) (down e * 1) 0 536870912 (omega (arith, down_pos e)) (lit< tt) (lit< tt) (omega arith) (omega (arith, p.1)) }
    go false h = record { sign = false; is = round_in binary64 30 (lit≤ tt) false (n * up e * 1 - 1 * down e) (down e * 1) 0 536870912 (omega (arith, down_pos e)) (lit< tt) (lit< tt) (omega arith) (omega (arith, p.2)) }

-- at most 1 - 2^-24
less_one_below : (m : Float) → In 30 false 805306368 1073741760 m → In 30 true 64 268435456 (sub binary64 m one64)
unfolding sub add neg sum
less_one_below nan p = absurd p
less_one_below (inf s) p = absurd p
less_one_below (fin true n e) p = absurd (true≢false p.0)
less_one_below (fin false n e) p =
    subst (λ (o : Float). In 30 true 64 268435456 (add binary64 (fin false n e) (neg o))) (sym one_is)
    (rw (lt-ltb (n * up e * 1) (1 * down e) (omega (arith, p.2, down_pos e)))
    (round_in binary64 30 (lit≤ tt) true (1 * down e - n * up e * 1) (down e * 1) 64 268435456 (omega (arith, down_pos e)) (lit< tt) (lit< tt) (omega (arith, p.2)) (omega (arith, p.1))))

z_any : (m : Float) → In 30 false 805306368 1610612736 m → Sized 318767104 (z_of m)
unfolding z_of
z_any m p =
    let w = less_one m p in
    record {
      sign = w.sign;
      is = div_in binary64 30 (lit≤ tt) w.sign false 0 536870912 1879048192 2684354560 0 318767104 (lit< tt) (lit< tt) _ _ (lit< tt) (lit≤ tt) (lit≤ tt) w.is
          (add_in binary64 30 (lit≤ tt) false false 805306368 1610612736 (2 ^ 30) (2 ^ 30) 1879048192 2684354560 (lit< tt) (lit< tt) m one64 (lit≤ tt) (lit≤ tt) p one_in);
    }

z_below : (m : Float) → In 30 false 805306368 1073741760 m → In 30 true 32 318767104 (z_of m)
unfolding z_of
z_below m p =
    div_in binary64 30 (lit≤ tt) true false 64 268435456 1879048192 (2 ^ 31) 32 318767104 (lit< tt) (lit< tt) _ _ (lit< tt) (lit≤ tt) (lit≤ tt) (less_one_below m p)
    (add_in binary64 30 (lit≤ tt) false false 805306368 1073741760 (2 ^ 30) (2 ^ 30) 1879048192 (2 ^ 31) (lit< tt) (lit< tt) m one64 (lit≤ tt) (lit≤ tt) p one_in)

-- ---- k·ln 2 and the rest
smaller : (K l p De Dd M N : ℕ) → p < l → 0 < De → 0 < Dd → l * De ≤ M * K → N * K ≤ p * Dd → N * De < M * Dd
smaller K l p De Dd M N g x y a b =
    let i : N * De * K ≡ N * K * De = simp (mul_assoc, mul_comm, mul_left_comm) in
    let j : p * Dd * De ≡ p * (De * Dd) = simp (mul_assoc, mul_comm, mul_left_comm) in
    let k : l * (De * Dd) ≡ l * De * Dd = simp (mul_assoc, mul_comm, mul_left_comm) in
    let o : M * K * Dd ≡ M * Dd * K = simp (mul_assoc, mul_comm, mul_left_comm) in
    lt_of_mul-lt-mul_right K
    (lt_of_le_of_lt (le_trans (le_of_eq i) (le_trans (mul-le-mul_right De b) (le_of_eq j)))
    (lt_of_lt_of_le (mul-lt-mul_of_pos_right g (mul-pos x y)) (le_trans (le_of_eq k) (le_trans (mul-le-mul_right Dd a) (le_of_eq o)))))

minus_sum : (t : Bool) (l h p : ℕ) (x y : Float) → p < l → In 30 true l h x → In 30 t 0 p y → Signed true (add binary64 x y)
unfolding add sum
minus_sum t l h p nan y g a b = absurd a
minus_sum t l h p (inf s) y g a b = absurd a
minus_sum t l h p (fin false m e) y g a b = absurd (true≢false (sym a.0))
minus_sum t l h p (fin true m e) nan g a b = absurd b
minus_sum t l h p (fin true m e) (inf s) g a b = absurd b
minus_sum t l h p (fin true m e) (fin true n d) g a b = round_signed binary64 true (m * up e * down d + n * up d * down e) (down e * down d)
minus_sum t l h p (fin true m e) (fin false n d) g a b =
    let s = smaller (2 ^ 30) l p (down e) (down d) (m * up e) (n * up d) g (down_pos e) (down_pos d) a.1 b.2 in
    rw (le-ltb (m * up e * down d) (n * up d * down e) (le_of_lt s), lt-ltb (n * up d * down e) (m * up e * down d) s)
    (round_signed binary64 true (m * up e * down d - n * up d * down e) (down e * down d))

minus_only : (h : ℕ) (y : Float) → In 30 true 4 h y → Signed true (add binary64 (fin false 0 (pos 0)) y)
unfolding add sum
minus_only h nan b = absurd b
minus_only h (inf s) b = absurd b
minus_only h (fin false n d) b = absurd (true≢false (sym b.0))
minus_only h (fin true n d) b =
    rw (lt-ltb (0 * down d) (n * up d * 1) (omega (arith, b.1, down_pos d))) (round_signed binary64 true (n * up d * 1 - 0 * down d) (1 * down d))

-- k below 0
from_below : (m : Float) (i : ℕ) → i < 200 → In 30 false 805306368 1610612736 m → Signed true (log_from m (of_int binary64 (negsuc i)))
unfolding log_from of_int
from_below m i h p =
    let z = z_any m p in
    minus_sum z.sign 744261117 148852223600 717225984 _ _ (lit< tt)
    (mul_in binary64 30 (lit≤ tt) true false (2 ^ 30) 214748364800 744261117 744261118 744261117 148852223600 (lit< tt) (lit< tt) true (round binary64 true (suc i) 1) ln2 refl (lit≤ tt) (lit≤ tt)
    (round_in binary64 30 (lit≤ tt) true (suc i) 1 (2 ^ 30) 214748364800 (lit< tt) (lit< tt) (lit< tt) (omega arith) (omega arith)) ln2_in)
    (part_in z.sign 0 0 0 (z_of m) (lit< tt) (lit< tt) (lit≤ tt) (lit≤ tt) z.is)

-- k = 0
nothing : mul binary64 (of_int binary64 (pos 0)) ln2 ≡ fin false 0 (pos 0)
unfolding mul of_int of_bits round
nothing = refl

from_zero : (m : Float) → In 30 false 805306368 1073741760 m → Signed true (log_from m (of_int binary64 (pos 0)))
unfolding log_from
from_zero m p = rw nothing (minus_only 717225984 (log_part (z_of m)) (part_in true 32 64 4 (z_of m) (lit< tt) (lit< tt) (lit≤ tt) (lit≤ tt) (z_below m p)))

narrowed_signed : (s : Bool) (x : Float) → Signed s x → Signed s (narrowed x)
unfolding narrowed
narrowed_signed s nan p = p
narrowed_signed s (inf t) p = p
narrowed_signed s (fin t m e) p = subst (λ (u : Bool). Signed u (round binary32 t (m * up e) (down e))) p (round_signed binary32 t (m * up e) (down e))

-- ---- n · 2^-(j + 1) below 1, n of b digits
module _ (n b j : ℕ) (under : n < 2 ^ b) (reaches : 2 ^ b ≤ 2 * n) (short : b ≤ 24) (deep : suc j ≤ 149) where
  small : 2 ^ b ≤ 16777216
  small = pow_mono short

  high_in : 3 * 2 ^ b ≤ 4 * n → In 30 false 805306368 1610612736 (round binary64 false n (2 ^ b))
  high_in h = round_in binary64 30 (lit≤ tt) false n (2 ^ b) 805306368 1610612736 (pow_pos b) (lit< tt) (lit< tt) (omega arith) (omega arith)

  unit_in : 3 * 2 ^ b ≤ 4 * n → In 30 false 805306368 1073741760 (round binary64 false n (2 ^ b))
  unit_in h = round_in binary64 30 (lit≤ tt) false n (2 ^ b) 805306368 1073741760 (pow_pos b) (lit< tt) (lit< tt) (omega arith) (omega (arith, small))

  low_in : 4 * n < 3 * 2 ^ b → In 30 false 805306368 1610612736 (round binary64 false (2 * n) (2 ^ b))
  low_in h = round_in binary64 30 (lit≤ tt) false (2 * n) (2 ^ b) 805306368 1610612736 (pow_pos b) (lit< tt) (lit< tt) (omega arith) (omega arith)

  split : b ≤ suc j → (top : Bool) → leb (3 * 2 ^ b) (4 * n) ≡ top → Signed true (log_split top n (negsuc j) b)
  unfolding log_split
  split l true h = go (ltb b (suc j)) refl
    where
      go : (c : Bool) → ltb b (suc j) ≡ c → Signed true (log_from (round binary64 false n (2 ^ b)) (of_int binary64 (cond c (negsuc (suc j - suc b)) (pos (b - suc j)))))
      go true g = from_below _ (suc j - suc b) (omega arith) (high_in (leb-true (3 * 2 ^ b) (4 * n) h))
      go false g = let e : b - suc j ≡ 0 = omega arith in rw e (from_zero _ (unit_in (leb-true (3 * 2 ^ b) (4 * n) h)))
  split l false h = go (ltb b (suc j)) refl
    where
      go : (c : Bool) → ltb b (suc j) ≡ c → Signed true (log_from (round binary64 false (2 * n) (2 ^ b)) (of_int binary64 (pred_ℤ (cond c (negsuc (suc j - suc b)) (pos (b - suc j))))))
      go true g = from_below _ (suc (suc j - suc b)) (omega arith) (low_in (leb-false (3 * 2 ^ b) (4 * n) h))
      go false g = let e : b - suc j ≡ 0 = omega arith in rw e (from_below _ 0 (lit< tt) (low_in (leb-false (3 * 2 ^ b) (4 * n) h)))

-- a positive f32 below 1
pub log_minus : (n : ℕ) (e : ℤ) → T (fits binary32 (fin false (suc n) e)) → suc n * up e < down e → Signed true (log_of (fin false (suc n) e))
unfolding log_of wide_log log_at fits
log_minus n (pos j) f h = absurd (let g = mul-pos (zero-lt-suc n) (pow_pos j) in let r : ⊥ = omega arith in r)
log_minus n (negsuc j) f h =
    let few : suc n < 2 ^ 24 = ltb→lt (suc n) (2 ^ 24) (and_r a b (and_l (a && b) c (and_l (a && b && c) d f))) in
    let deep : 2 ^ suc j ≤ 2 ^ 149 = leb→le (2 ^ suc j) (2 ^ 149) (and_r (a && b) c (and_l (a && b && c) d f)) in
    let l : suc j ≤ 149 = le_of_suc-le-suc (lt_of_not-le (λ (g : 150 ≤ suc j). not-le_of_lt (pow-lt {i = 149} {j = suc j} g) deep)) in
    let s = size (suc n) in
    narrowed_signed true (log_split (leb (3 * 2 ^ s) (4 * suc n)) (suc n) (negsuc j) s)
    (split (suc n) s j (size-lt (suc n)) (reach s (size-lt (suc n)) (size_reaches (suc n))) (size-le (suc n) 24 few) l
    (size-le (suc n) (suc j) (subst (λ (x : ℕ). x < 2 ^ suc j) (mul-one (suc n)) h)) (leb (3 * 2 ^ s) (4 * suc n)) refl)
  where
    a : Bool
    a = eqb (suc n % 2) 1

    b : Bool
    b = ltb (suc n) (2 ^ 24)

    c : Bool
    c = leb (2 ^ suc j) (2 ^ 149)

    d : Bool
    d = ltb (suc n * 1) (2 ^ 128 * 2 ^ suc j)

    reach : (s : ℕ) → suc n < 2 ^ s → ((i : ℕ) → i < s → 2 ^ i ≤ suc n) → 2 ^ s ≤ 2 * suc n
    reach zero u v = absurd (let r : ⊥ = omega arith in r)
    reach (suc s) u v = let w = v s (omega arith) in omega (arith, pow-suc 2 s)
