-- The whole root of a number is the one r with r * r ≤ n < (r + 1) * (r + 1), and the definitions `isqrt`, `near_root` and `root_of` by it.
use Rattle.std.proofs.Common.{◌≡◌, ℕ, zero, suc, ◌+◌, ◌-◌, ◌*◌, ◌/◌, ◌%◌, ◌^◌, ◌<◌, ◌≤◌, Bool, true, false, cond, not, T, ltb, leb, sym, ap, ◌∙◌, subst, zero-le, le_trans, le_of_eq, lt_of_lt_of_le, le_of_suc-le-suc, lt_irrefl, mul-le-mul_right, mul_assoc, div-lt_iff_lt-mul, mul-le-mul, le_antisymm, pow-suc, lt_of_not-le, arith, lit<, lit≤, leb→le, pow_pos, pow_mono, pow-add, shl_lt, shl_exact, le-ltb, lt-ltb}
use native.Mathlib.Nat.{div-eq_of_eq-mul_left}
use lib.Count.{count_leading_zeros, leading_top}
use lib.Dec.{nleb→lt}
use lib.Ieee.{binary32, units, size, of_bits}
use Rattle.whole_root.specs.declared.WholeRoot.{WholeRoot}
use Rattle.whole_root.specs.Rounds.{rounds, whole_of, Whole}
use Rattle.whole_root.proofs.Squares.{twice, next_square}
use Rattle.whole_root.proofs.Rounds.{rounds_only}
use Rattle.float.specs.Root.{isqrt, near_root, root_of}
use Rattle.float.proofs.Digits.{size_is}

abbrev pub Root : ℕ → ℕ → Type 0
Root n r = (r * r ≤ n) × (n < (r + 1) * (r + 1))

pub isqrt_root : (d n : ℕ) → n < 4 ^ d → Root n (isqrt d n)
unfolding isqrt
isqrt_root zero n h = (zero-le, h)
isqrt_root (suc d) n h =
    let r = isqrt d (n / 4) in
    let ih : Root (n / 4) r = isqrt_root d (n / 4) ((div-lt_iff_lt-mul (lit< tt)).1 (subst (λ (x : ℕ). n < x) (pow-suc 4 d) h)) in
    let lo : 2 * r * (2 * r) ≤ n = omega (arith, twice r, ih.0) in
    let e : 2 * r + 1 + 1 ≡ 2 * (r + 1) = omega arith in
    let hi : n < (2 * r + 1 + 1) * (2 * r + 1 + 1) = subst (λ (x : ℕ). n < x * x) (sym e) (omega (arith, twice (r + 1), ih.1)) in
    go (2 * r) (leb ((2 * r + 1) * (2 * r + 1)) n) (leb→le ((2 * r + 1) * (2 * r + 1)) n) (nleb→lt ((2 * r + 1) * (2 * r + 1)) n) lo hi
  where
    go : (r : ℕ) (b : Bool) → (T b → (r + 1) * (r + 1) ≤ n) → (T (not b) → n < (r + 1) * (r + 1)) → r * r ≤ n → n < (r + 1 + 1) * (r + 1 + 1) → Root n (cond b (r + 1) r)
    go r true p q lo hi = (p tt, hi)
    go r false p q lo hi = (lo, q tt)

root_le : (n r s : ℕ) → r * r ≤ n → n < (s + 1) * (s + 1) → r ≤ s
root_le n r s p q =
    le_of_suc-le-suc (lt_of_not-le (λ (g : suc s ≤ r). let h : s + 1 ≤ r = omega arith in lt_irrefl n (lt_of_lt_of_le q (le_trans (mul-le-mul h h) p))))

root_unique : (n r s : ℕ) → Root n r → Root n s → r ≡ s
root_unique n r s p q = le_antisymm (root_le n r s p.0 q.1) (root_le n s r q.0 p.1)

-- an n of 2 ^ 46 or more has a root of 24 digits
pub root_ge : (n r : ℕ) → 2 ^ 46 ≤ n → Root n r → 2 ^ 23 ≤ r
root_ge n r h p =
    le_of_suc-le-suc (lt_of_not-le (λ (g : suc r ≤ 2 ^ 23). let k : r + 1 ≤ 2 ^ 23 = omega arith in lt_irrefl n (lt_of_lt_of_le p.1 (le_trans (mul-le-mul k k) h))))

-- what the rounds of a root leave
pub root_whole : (n : ℕ) (w : WholeRoot) → Whole n w → Root n w.root
root_whole n w h = (omega (arith, h.sum), next_square w.root w.rest n (omega (arith, h.sum)) h.within)

-- ---- the nearest whole root
near_is : (n r : ℕ) → n < 2 ^ 48 → Root n r → near_root n ≡ cond (ltb (r * r + r) n) (r + 1) r
unfolding near_root
near_is n r h p = ap (λ (x : ℕ). cond (ltb (x * x + x) n) (x + 1) x) (root_unique n (isqrt 24 n) r (isqrt_root 24 n h) p)

pub near_up : (n r : ℕ) → n < 2 ^ 48 → Root n r → r * r + r < n → near_root n ≡ r + 1
near_up n r h p l = near_is n r h p ∙ ap (λ (b : Bool). cond b (r + 1) r) (lt-ltb (r * r + r) n l)

pub near_down : (n r : ℕ) → n < 2 ^ 48 → Root n r → n ≤ r * r + r → near_root n ≡ r
near_down n r h p l = near_is n r h p ∙ ap (λ (b : Bool). cond b (r + 1) r) (le-ltb (r * r + r) n l)

pub whole_up : (n : ℕ) (w : WholeRoot) → n < 2 ^ 48 → Whole n w → w.root < w.rest → near_root n ≡ w.root + 1
whole_up n w l h u = near_up n w.root l (root_whole n w h) (omega (arith, h.sum))

pub whole_down : (n : ℕ) (w : WholeRoot) → n < 2 ^ 48 → Whole n w → w.rest ≤ w.root → near_root n ≡ w.root
whole_down n w l h d = near_down n w.root l (root_whole n w h) (omega (arith, h.sum))

-- ---- the root of m * 2 ^ e, where m has j + 1 digits: that of n = m * 2 ^ (e - 2 * k), k places up
pub root_of_zero : (n : ℕ) → n ≡ 0 → of_bits binary32 0 ≡ root_of n
unfolding root_of of_bits
root_of_zero n e = ap root_of (sym e)

module _ (m e j k : ℕ) (lo : 2 ^ j ≤ m) (hi : m < 2 ^ suc j) (few : j < 24) (far : 149 ≤ e) (half : k ≡ (suc j + e - 47) / 2) where
  even : (2 * k ≤ e) × (46 ≤ j + (e - 2 * k)) × (suc j + (e - 2 * k) ≤ 48)
  even = omega arith

  counted : size (m * 2 ^ e) ≡ j + e + 1
  counted =
      size_is (m * 2 ^ e) (j + e) (subst (λ (x : ℕ). x ≤ m * 2 ^ e) (sym (pow-add 2 j e)) (mul-le-mul_right (2 ^ e) lo))
      (subst (λ (x : ℕ). m * 2 ^ e < 2 ^ x) (let r : suc j + e ≡ j + e + 1 = omega arith in r) (shl_lt (suc j) e hi))

  dropped : (size (m * 2 ^ e) + 1) / 2 - 24 ≡ k
  dropped = omega (arith, counted)

  whole_cut : m * 2 ^ e ≡ m * 2 ^ (e - 2 * k) * 2 ^ (2 * k)
  whole_cut =
      sym (mul_assoc m (2 ^ (e - 2 * k)) (2 ^ (2 * k))
      ∙ ap (λ (x : ℕ). m * x) (sym (pow-add 2 (e - 2 * k) (2 * k)) ∙ ap (λ (x : ℕ). 2 ^ x) (let r : e - 2 * k + 2 * k ≡ e = omega (arith, even.0) in r)))

  cut : m * 2 ^ e / 2 ^ (2 * k) ≡ m * 2 ^ (e - 2 * k)
  cut = div-eq_of_eq-mul_left (pow_pos (2 * k)) whole_cut

  root_of_is : root_of (m * 2 ^ e) ≡ units binary32 false (near_root (m * 2 ^ (e - 2 * k))) k
  unfolding root_of
  root_of_is =
      ap (λ (z : ℕ). units binary32 false (near_root (m * 2 ^ e / 2 ^ (2 * z))) z) dropped
      ∙ ap (λ (n : ℕ). units binary32 false (near_root n) k) cut

  n_lt : m * 2 ^ (e - 2 * k) < 2 ^ 48
  n_lt = lt_of_lt_of_le (shl_lt (suc j) (e - 2 * k) hi) (pow_mono even.2)

  n_ge : 2 ^ 46 ≤ m * 2 ^ (e - 2 * k)
  n_ge = le_trans (pow_mono even.1) (le_trans (le_of_eq (pow-add 2 j (e - 2 * k))) (mul-le-mul_right (2 ^ (e - 2 * k)) lo))

  -- n is a word of 31 or 32 digits, 16 places up
  word : m * 2 ^ (e - 2 * k - 16) * 2 ^ 16 ≡ m * 2 ^ (e - 2 * k)
  word =
      mul_assoc m (2 ^ (e - 2 * k - 16)) (2 ^ 16)
      ∙ ap (λ (x : ℕ). m * x) (sym (pow-add 2 (e - 2 * k - 16) 16) ∙ ap (λ (x : ℕ). 2 ^ x) (let r : e - 2 * k - 16 + 16 ≡ e - 2 * k = omega (arith, even.1) in r))

  word_lt : m * 2 ^ (e - 2 * k - 16) < 2 ^ 32
  word_lt = lt_of_lt_of_le (shl_lt (suc j) (e - 2 * k - 16) hi) (pow_mono (let r : suc j + (e - 2 * k - 16) ≤ 32 = omega (arith, even.1, even.2) in r))

  word_is : m * 2 ^ (e - 2 * k - 16) % 2 ^ 64 ≡ m * 2 ^ (e - 2 * k - 16)
  word_is = shl_exact (suc j) (e - 2 * k - 16) 64 hi (omega (arith, even.2))

-- ---- the same, with the digits counted by the leading zeros
abbrev pub k_of : ℕ → ℕ → ℕ
k_of m e = (64 - count_leading_zeros 64 m + e - 47) / 2

abbrev pub n_of : ℕ → ℕ → ℕ
n_of m e = m * 2 ^ (e - 2 * k_of m e)

abbrev pub word_of : ℕ → ℕ → ℕ
word_of m e = m * 2 ^ (e - 2 * k_of m e - 16)

pub record Scaled (m e : ℕ) : Type 0 where
  pub even : 2 * k_of m e + 16 ≤ e
  pub whole : word_of m e % 2 ^ 64 ≡ word_of m e
  pub small : word_of m e < 2 ^ 32
  pub word : word_of m e * 2 ^ 16 ≡ n_of m e
  pub under : n_of m e < 2 ^ 48
  pub over : 2 ^ 46 ≤ n_of m e
  pub exact : m * 2 ^ e ≡ n_of m e * 2 ^ (2 * k_of m e)
  pub is : root_of (m * 2 ^ e) ≡ units binary32 false (near_root (n_of m e)) (k_of m e)

digits : (m : ℕ) → m < 2 ^ 24 → (m ≡ 0 → ⊥) → (j : ℕ) × (64 - count_leading_zeros 64 m ≡ suc j) × (2 ^ j ≤ m) × (m < 2 ^ suc j) × (j < 24)
digits m h n =
    let d = leading_top 64 m (let r : 0 < m = omega arith in r) (lt_of_lt_of_le h (lit≤ tt)) in
    let j = d.0 in
    (j, omega (arith, d.1), d.2, d.3, lt_of_not-le (λ (g : 24 ≤ j). lt_irrefl m (lt_of_lt_of_le h (le_trans (pow_mono g) d.2))))

pub scaled : (m e : ℕ) → m < 2 ^ 24 → 149 ≤ e → (m ≡ 0 → ⊥) → Scaled m e
scaled m e h far n =
    let d = digits m h n in
    let half : k_of m e ≡ (suc d.0 + e - 47) / 2 = ap (λ (x : ℕ). (x + e - 47) / 2) d.1 in
    let v = even m e d.0 (k_of m e) d.2 d.3 d.4 far half in
    record {
      even = omega (arith, v.0, v.1, d.4);
      whole = word_is m e d.0 (k_of m e) d.2 d.3 d.4 far half;
      small = word_lt m e d.0 (k_of m e) d.2 d.3 d.4 far half;
      word = word m e d.0 (k_of m e) d.2 d.3 d.4 far half;
      under = n_lt m e d.0 (k_of m e) d.2 d.3 d.4 far half;
      over = n_ge m e d.0 (k_of m e) d.2 d.3 d.4 far half;
      exact = whole_cut m e d.0 (k_of m e) d.2 d.3 d.4 far half;
      is = root_of_is m e d.0 (k_of m e) d.2 d.3 d.4 far half;
    }

-- 24 rounds make the root of every m but 0, and no other number of rounds does
pub only_24 : (m e : ℕ) → m < 2 ^ 24 → 149 ≤ e → (m ≡ 0 → ⊥) → (k : ℕ) → (whole_of (rounds k (word_of m e))).root ≡ (whole_of (rounds 24 (word_of m e))).root → k ≡ 24
only_24 m e h far n k i = let w = scaled m e h far n in rounds_only k 24 (word_of m e) (omega (arith, w.word, w.over)) w.small i
