-- M * 2 ^ K / 2 ^ D as the nearest f32: M moved up by its leading zeros, then cut to the digits that are kept.
use Rattle.std.proofs.Common.{◌≡◌, ℕ, suc, ◌+◌, ◌-◌, ◌*◌, ◌/◌, ◌%◌, ◌^◌, ◌<◌, ◌≤◌, Bool, ◌⊎◌, sym, ap, ◌∙◌, subst, ⊎_elim, le_trans, le_of_eq, lt_of_lt_of_le, lt_irrefl, mul-le-mul_right, mul_assoc, div-lt_iff_lt-mul, mul-pos, pow-suc, lt_of_not-le, le-div_iff_mul-le, zero-mul, arith, lit≤, pow_pos, pow_mono, pow-add, shl_lt, shl_exact}
use lib.Count.{count_leading_zeros, leading_top}
use lib.Ieee.{binary32, units, size, round}
use lib.Ieee.Digits.{size-le}
use lib.Ieee.Fits.{round_is}
use lib.Ieee.Nearest.{closest, closest_same}
use lib.Ieee.Scale.{round_same}
use Rattle.float.proofs.Digits.{size_gt}

-- ---- M has up to w digits; j of them are cut off, and k of the result's are dropped
module _ (D w : ℕ) (s : Bool) (M K j k : ℕ) (m-lt : M < 2 ^ w) (places : K + 149 + j ≡ D + k) (cut : w ≤ 24 + j) (or : (k ≡ 0) ⊎ ((w ≡ 24 + j) × (2 ^ w ≤ 2 * M))) where
  joined : M * 2 ^ K * 2 ^ 149 ≡ M * 2 ^ (K + 149)
  joined = mul_assoc M (2 ^ K) (2 ^ 149) ∙ ap (λ (x : ℕ). M * x) (sym (pow-add 2 K 149))

  high : size (M * 2 ^ K * 2 ^ 149 / 2 ^ D) ≤ 24 + k
  high =
      size-le (M * 2 ^ K * 2 ^ 149 / 2 ^ D) (24 + k)
      ((div-lt_iff_lt-mul (pow_pos D)).1
      (subst (λ (x : ℕ). x < 2 ^ (24 + k) * 2 ^ D) (sym joined)
      (lt_of_lt_of_le (shl_lt w (K + 149) m-lt)
      (le_trans (pow_mono (let r : w + (K + 149) ≤ 24 + k + D = omega arith in r)) (le_of_eq (pow-add 2 (24 + k) D))))))

  low : w ≡ 24 + j → 2 ^ w ≤ 2 * M → 24 + k ≤ size (M * 2 ^ K * 2 ^ 149 / 2 ^ D)
  low e g =
      let twice : 2 ^ (24 + j) ≡ 2 ^ (23 + j) * 2 = ap (λ (x : ℕ). 2 ^ x) (let r : 24 + j ≡ suc (23 + j) = omega arith in r) ∙ pow-suc 2 (23 + j) in
      let f = ap (λ (x : ℕ). 2 ^ x) e in
      let half : 2 ^ (23 + j) ≤ M = omega arith in
      let r : 23 + k < size (M * 2 ^ K * 2 ^ 149 / 2 ^ D) =
      size_gt (M * 2 ^ K * 2 ^ 149 / 2 ^ D) (23 + k)
      ((le-div_iff_mul-le (pow_pos D)).1
      (subst (λ (x : ℕ). 2 ^ (23 + k) * 2 ^ D ≤ x) (sym joined)
      (le_trans (le_of_eq (sym (pow-add 2 (23 + k) D)))
      (le_trans (pow_mono (let r : 23 + k + D ≤ 23 + j + (K + 149) = omega arith in r))
      (le_trans (le_of_eq (pow-add 2 (23 + j) (K + 149))) (mul-le-mul_right (2 ^ (K + 149)) half)))))) in
      omega arith

  dropped : size (M * 2 ^ K * 2 ^ 149 / 2 ^ D) - 24 ≡ k
  dropped =
      let h = high in
      ⊎_elim (λ (z : k ≡ 0). let r : size (M * 2 ^ K * 2 ^ 149 / 2 ^ D) - 24 ≡ k = omega arith in r)
      (λ (w : (w ≡ 24 + j) × (2 ^ w ≤ 2 * M)). let l = low w.0 w.1 in let r : size (M * 2 ^ K * 2 ^ 149 / 2 ^ D) - 24 ≡ k = omega arith in r)
      or

  scaled : M * 2 ^ K * 2 ^ 149 * 2 ^ j ≡ M * (2 ^ D * 2 ^ k)
  scaled =
      ap (λ (x : ℕ). x * 2 ^ j) joined
      ∙ mul_assoc M (2 ^ (K + 149)) (2 ^ j)
      ∙ ap (λ (x : ℕ). M * x) (sym (pow-add 2 (K + 149) j) ∙ ap (λ (x : ℕ). 2 ^ x) places ∙ pow-add 2 D k)

  pub rounds : round binary32 s (M * 2 ^ K) (2 ^ D) ≡ units binary32 s (closest M (2 ^ j)) k
  rounds =
      round_is binary32 s (M * 2 ^ K) (2 ^ D)
      ∙ ap (λ (z : ℕ). units binary32 s (closest (M * 2 ^ K * 2 ^ 149) (2 ^ D * 2 ^ z)) z) dropped
      ∙ ap (λ (q : ℕ). units binary32 s q k) (closest_same (M * 2 ^ K * 2 ^ 149) (2 ^ D * 2 ^ k) M (2 ^ j) (mul-pos (pow_pos D) (pow_pos k)) (pow_pos j) scaled)

-- ---- m moved up until its highest set bit is 2 ^ 62
abbrev pub zeros_of : ℕ → ℕ
zeros_of m = count_leading_zeros 64 m

abbrev pub moved_of : ℕ → ℕ
moved_of m = m * 2 ^ (zeros_of m - 1)

pub record Moved (m : ℕ) : Type 0 where
  pub some : 1 ≤ zeros_of m
  pub not_all : zeros_of m ≤ 63
  pub whole : moved_of m % 2 ^ 64 ≡ moved_of m
  pub under : moved_of m < 2 ^ 63
  pub over : 2 ^ 62 ≤ moved_of m

pub moved : (m : ℕ) → m < 2 ^ 63 → (m ≡ 0 → ⊥) → Moved m
moved m h n =
    let d = leading_top 64 m (let r : 0 < m = omega arith in r) (lt_of_lt_of_le h (lit≤ tt)) in
    let j = d.0 in
    let e : zeros_of m + suc j ≡ 64 = d.1 in
    let l : j < 63 = lt_of_not-le (λ (g : 63 ≤ j). lt_irrefl m (lt_of_lt_of_le h (le_trans (pow_mono g) d.2))) in
    record {
      some = omega arith;
      not_all = omega arith;
      whole = shl_exact (suc j) (zeros_of m - 1) 64 d.3 (omega arith);
      under = subst (λ (x : ℕ). moved_of m < 2 ^ x) (let r : suc j + (zeros_of m - 1) ≡ 63 = omega arith in r) (shl_lt (suc j) (zeros_of m - 1) d.3);
      over = le_trans (le_of_eq (ap (λ (x : ℕ). 2 ^ x) (let r : 62 ≡ j + (zeros_of m - 1) = omega arith in r) ∙ pow-add 2 j (zeros_of m - 1))) (mul-le-mul_right (2 ^ (zeros_of m - 1)) d.2);
    }

-- the same value after the move
pub same : (s : Bool) (m e : ℕ) → Moved m → round binary32 s (m * 2 ^ e) (2 ^ 1074) ≡ round binary32 s (moved_of m * 2 ^ (e + 63 - zeros_of m)) (2 ^ 1136)
same s m e d =
    let z = zeros_of m in
    let w = e + 63 - zeros_of m in
    round_same binary32 s (m * 2 ^ e) (2 ^ 1074) (moved_of m * 2 ^ w) (2 ^ 1136) (pow_pos 1074) (pow_pos 1136)
    (mul_assoc m (2 ^ e) (2 ^ 1136)
    ∙ ap (λ (x : ℕ). m * x)
    (sym (pow-add 2 e 1136)
    ∙ ap (λ (x : ℕ). 2 ^ x) (let r : e + 1136 ≡ z - 1 + (w + 1074) = omega (arith, d.some, d.not_all) in r)
    ∙ pow-add 2 (z - 1) (w + 1074)
    ∙ ap (λ (x : ℕ). 2 ^ (z - 1) * x) (pow-add 2 w 1074))
    ∙ sym (mul_assoc m (2 ^ (z - 1)) (2 ^ w * 2 ^ 1074))
    ∙ sym (mul_assoc (moved_of m) (2 ^ w) (2 ^ 1074)))

-- no digits at all
pub nothing : (s : Bool) (m e : ℕ) → m ≡ 0 → round binary32 s (m * 2 ^ e) (2 ^ 1074) ≡ units binary32 s 0 0
unfolding round
nothing s m e h = ap (λ (x : ℕ). round binary32 s x (2 ^ 1074)) (ap (λ (x : ℕ). x * 2 ^ e) h ∙ zero-mul (2 ^ e))
