-- The two trials of a golden-section round lie between the ends of the bracket, whichever of the ends is the lower one: 0.618034 of the difference, with both roundings, is no more than the exact difference.
use mathlib.Core.Path.{◌≡◌, refl, sym, subst}
use mathlib.Core.Bool.{Bool, true, false}
use mathlib.Core.Logic.{⊎_elim}
use Prim.Native.Nat.{ℕ, suc, ◌+◌, ◌-◌, ◌*◌, ◌/◌, ◌^◌, ◌≤◌, ◌<◌, zero-le}
use native.Mathlib.Nat.{le_refl, le_of_lt, le_of_eq, le_trans, lt_of_lt_of_le, lt_of_le_of_lt, mul-one, mul_assoc, mul_comm, mul_right_comm, mul-le-mul, mul-le-mul_right, mul-le-mul_left, mul-pos, add-mul, div-mul-le_self, le-div_iff_mul-le, div-lt_iff_lt-mul, add-le-add, sub-le}
use native.Mathlib.Omega.{arith}
use lib.Dec.{lit<, lit≤}
use lib.Pow.{pow-add, pow_pos}
use lib.Ieee.{Float, binary32, of_bits, size, round, sub, mul, neg, unlike}
use lib.Ieee.Digits.{size_reaches}
use lib.Ieee.Fits.{kept-lt}
use lib.Ieee.Scale.{grid}
use Rattle.float.proofs.Digits.{size_gt}
use Rattle.std.proofs.lemmas.Bool.{cases_lt}
use Rattle.golden.specs.Golden.{golden32, left_of, right_of}
use Rattle.finite_model.proofs.Multiples.{U, Of, Held, own, held_of, grid_under, grid_le, round_of, add_plus, add_minus, add_under, neg_of, mul_is, Within, whole_within}

-- 0.618034 is 5184445 · 2 ^ 126 of the smallest f32
abbrev Φ : ℕ
Φ = 5184445 * 2 ^ 126

golden_of : Of golden32 false Φ
unfolding of_bits
golden_of = (refl, refl)

-- the rounded difference n, and 0.618034 of it, rounded
abbrev step : ℕ → ℕ
step n = grid binary32 n U

abbrev part : ℕ → ℕ
part n = grid binary32 (Φ * step n) (U * U)

-- from Φ·k ≤ z·U, over U-as-U
over : (k z : ℕ) → Φ * k ≤ z * U → Φ * k * U ≤ z * (U * U)
over k z h = le_trans (mul-le-mul_right U h) (le_of_eq (mul_assoc z U U))

part_le : (n z : ℕ) → Held z → Φ * step n ≤ z * U → part n ≤ z
part_le n z h l = grid_le (Φ * step n) (U * U) z (mul-pos (pow_pos 149) (pow_pos 149)) h (over (step n) z l)

-- a difference of at most 24 digits is exact
few : (n : ℕ) → n < 2 ^ 24 → Held n
few n h = subst Held (mul-one n) (own n 0 h (lt_of_le_of_lt (le_of_eq (mul-one n)) (lt_of_lt_of_le h (lit≤ tt))))

step_few : (n : ℕ) → n < 2 ^ 24 → step n ≤ n
step_few n h = grid_le n U n (pow_pos 149) (few n h) (le_refl (n * U))

part_few : (n : ℕ) → n < 2 ^ 24 → part n ≤ n
part_few n h = part_le n n (few n h) (le_trans (mul-le-mul (lit≤ {m = Φ} {n = U} tt) (step_few n h)) (le_of_eq (mul_comm U n)))

-- a longer one, cut to 23 digits, is w · 2 ^ t, so that it lies from that to (w + 1) · 2 ^ t
module _ (n t w : ℕ) (most : n ≤ U) (low : w * 2 ^ t ≤ n) (high : n ≤ suc w * 2 ^ t) (digits : 2 ≤ w) (short : w < 2 ^ 23) where
  cut : Held (w * 2 ^ t)
  cut = own w t (omega arith) (lt_of_le_of_lt (le_trans low most) (lit< {m = U} {n = 2 ^ 277} tt))

  next : Held (suc w * 2 ^ t)
  next =
      let two : suc w ≤ w + w = omega arith in
      own (suc w) t (omega arith)
      (lt_of_le_of_lt (le_trans (mul-le-mul_right (2 ^ t) two) (le_trans (le_of_eq (add-mul w w (2 ^ t))) (add-le-add (le_trans low most) (le_trans low most)))) (lit< {m = U + U} {n = 2 ^ 277} tt))

  step_long : step n ≤ suc w * 2 ^ t
  step_long = grid_le n U (suc w * 2 ^ t) (pow_pos 149) next (mul-le-mul_right U high)

  share : Φ * suc w ≤ w * U
  share =
      let r : 5184445 * suc w ≤ w * 2 ^ 23 = omega arith in
      le_trans (le_of_eq (mul_right_comm 5184445 (2 ^ 126) (suc w))) (le_trans (mul-le-mul_right (2 ^ 126) r) (le_of_eq (mul_assoc w (2 ^ 23) (2 ^ 126))))

  part_long : part n ≤ n
  part_long =
      le_trans (part_le n (w * 2 ^ t) cut
      (le_trans (mul-le-mul_left Φ step_long)
      (le_trans (le_of_eq (sym (mul_assoc Φ (suc w) (2 ^ t))))
      (le_trans (mul-le-mul_right (2 ^ t) share) (le_of_eq (mul_right_comm w U (2 ^ t))))))) low

-- 0.618034 of a difference, with both roundings, is at most the difference
part_under : (n : ℕ) → n ≤ U → part n ≤ n
part_under n most = ⊎_elim (λ (h : n < 2 ^ 24). part_few n h) (λ (h : 2 ^ 24 ≤ n). long h) (cases_lt n (2 ^ 24))
  where
    long : 2 ^ 24 ≤ n → part n ≤ n
    long h =
        let t = size n - 23 in
        let w = n / 2 ^ t in
        let g : 24 < size n = size_gt n 24 h in
        let r : 2 ^ 22 * 2 ^ t ≤ n = le_trans (le_of_eq (sym (pow-add 2 22 t))) (size_reaches n (22 + t) (omega arith)) in
        let d : 2 ^ 22 ≤ w = (le-div_iff_mul-le (pow_pos t)).1 r in
        part_long n t w most (div-mul-le_self n (2 ^ t)) (le_of_lt ((div-lt_iff_lt-mul (pow_pos t)).0 (le_refl (suc w)))) (omega arith) (kept-lt 23 n)

-- ---- the trials
pub one_held : Held U
one_held = own 1 149 (lit< tt) (lit< tt)

step_most : (n : ℕ) → n ≤ U → step n ≤ U
step_most n h = grid_le n U U (pow_pos 149) one_held (mul-le-mul_right U h)

-- the rounded difference, of either sign, and 0.618034 of it
difference_of : (s : Bool) (n : ℕ) → n ≤ U → Of (round binary32 s n U) s (step n)
difference_of s n h = round_of s n U (grid_under n U U (pow_pos 149) one_held (mul-le-mul_right U h))

part_of : (s : Bool) (n : ℕ) (d : Float) → n ≤ U → d ≡ round binary32 s n U → Of (mul binary32 golden32 d) (unlike false s) (part n)
part_of s n d h e =
    let l : Φ * step n ≤ U * U = mul-le-mul (lit≤ {m = Φ} {n = U} tt) (step_most n h) in
    subst (λ (z : Float). Of z (unlike false s) (part n))
    (sym (mul_is golden32 d false s Φ (step n) golden_of (rw e (difference_of s n h))))
    (round_of (unlike false s) (Φ * step n) (U * U) (grid_under (Φ * step n) (U * U) U (mul-pos (pow_pos 149) (pow_pos 149)) one_held (over (step n) U l)))

-- both trials
pub record Trials (lo hi : ℕ) (low high : Float) : Type 0 where
  pub left : Within false lo hi (left_of low high)
  pub right : Within false lo hi (right_of low high)

-- from lo to hi, a part of the difference off hi, or onto lo
off : (lo hi x : ℕ) → lo ≤ hi → x ≤ hi - lo → (x ≤ hi) × (lo ≤ hi - x) × (hi - x ≤ hi)
off lo hi x h u = (omega arith, omega arith, omega arith)

onto : (lo hi x : ℕ) → lo ≤ hi → x ≤ hi - lo → (lo ≤ lo + x) × (lo + x ≤ hi)
onto lo hi x h u = (omega arith, omega arith)

near : (lo hi : ℕ) → hi ≤ U → hi - lo ≤ U
near lo hi h = le_trans (sub-le hi lo) h

module _ (low high : Float) (a b : ℕ) (p : Of low false a) (q : Of high false b) (k : Held a) (l : Held b) where
  d : Float
  d = sub binary32 high low

  g : Float
  g = mul binary32 golden32 d

  rising : a ≤ b → b ≤ U → Trials a b low high
  unfolding sub d g
  rising h most =
      let x = part (b - a) in
      let e : d ≡ round binary32 false (b - a) U = add_minus high (neg low) b a q (neg_of low false a p) h in
      let v : Of g false x = part_of false (b - a) d (near a b most) e in
      let f = off a b x h (part_under (b - a) (near a b most)) in
      let o = onto a b x h (part_under (b - a) (near a b most)) in
      record {
        left = rw (add_minus high (neg g) b x q (neg_of g false x v) f.0) (whole_within a b (b - x) k l f.1 f.2);
        right = rw (add_plus low g a x p v) (whole_within a b (a + x) k l o.0 o.1);
      }

  falling : b < a → a ≤ U → Trials b a low high
  unfolding sub d g
  falling h most =
      let x = part (a - b) in
      let e : d ≡ round binary32 true (a - b) U = add_under high (neg low) b a q (neg_of low false a p) h in
      let v : Of g true x = part_of true (a - b) d (near b a most) e in
      let f = off b a x (le_of_lt h) (part_under (a - b) (near b a most)) in
      let o = onto b a x (le_of_lt h) (part_under (a - b) (near b a most)) in
      record {
        left = rw (add_plus high (neg g) b x q (neg_of g true x v)) (whole_within b a (b + x) l k o.0 o.1);
        right = rw (add_minus low g a x p v f.0) (whole_within b a (a - x) l k f.1 f.2);
      }

-- 0 to 1
abbrev pub ZeroToOne : Float → Type 0
ZeroToOne x = Within false 0 U x

within : (lo hi : ℕ) (x : Float) → hi ≤ U → Within false lo hi x → ZeroToOne x
within lo hi x h r = record { count = r.count; is = r.is; held = r.held; from = zero-le; to = le_trans r.to h }

-- trials between two ends in 0 to 1 are in 0 to 1
pub trials : (low high : Float) → ZeroToOne low → ZeroToOne high → Trials 0 U low high
trials low high p q = ⊎_elim down up (cases_lt q.count p.count)
  where
    wide : (lo hi : ℕ) → hi ≤ U → Trials lo hi low high → Trials 0 U low high
    wide lo hi h r = record { left = within lo hi (left_of low high) h r.left; right = within lo hi (right_of low high) h r.right }

    down : q.count < p.count → Trials 0 U low high
    down h = wide q.count p.count p.to (falling low high p.count q.count p.is q.is (held_of low false p.count p.held p.is) (held_of high false q.count q.held q.is) h p.to)

    up : p.count ≤ q.count → Trials 0 U low high
    up h = wide p.count q.count q.to (rising low high p.count q.count p.is q.is (held_of low false p.count p.held p.is) (held_of high false q.count q.held q.is) h q.to)
