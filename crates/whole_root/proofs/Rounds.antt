-- What k rounds have done: the root is that of n * 4 ^ k in units of 2 ^ 32. It has k digits where n has 31 or 32, and never more.
-- So 24 rounds, of the 32 that 02 allows, make the 24 digits of an f32's root, and no other number of rounds makes them.
use mathlib.Core.Path.{◌≡◌, refl, sym, ap, ◌∙◌, subst}
use mathlib.Core.Bool.{Bool, true, false, not}
use Prim.Native.Nat.{ℕ, zero, suc, ◌+◌, ◌*◌, ◌/◌, ◌^◌, ◌≤◌, ◌<◌}
use native.Mathlib.Nat.{le_trans, lt_of_lt_of_le, lt_irrefl, le_antisymm, lt_of_not-le, mul_comm, mul_assoc, mul-pos, mul-le-mul_right, mul-lt-mul_of_pos_right, mul-mul-mul_comm, pow-suc}
use native.Mathlib.Numerals.{add-one}
use native.Mathlib.Omega.{arith}
use borrow.Author.Tests.{lt-leb, le-leb}
use lib.Dec.{T, leb, leb→le, nleb→lt}
use lib.Pow.{pow_pos, pow_mono}
use Rattle.whole_root.specs.declared.PartialRoot.{PartialRoot}
use Rattle.whole_root.specs.Rounds.{trial_of, with_digit, one_round, rounds, whole_of, Whole}
use Rattle.whole_root.proofs.Squares.{twice, half_square, square_lt, next_square}

-- ---- a round by its test
pub digit_zero : (s : PartialRoot) → 4 * s.left < trial_of s → with_digit false s ≡ one_round s
unfolding one_round
digit_zero s l = sym (ap (λ (b : Bool). with_digit b s) (lt-leb (trial_of s) (4 * s.left) l))

pub digit_one : (s : PartialRoot) → trial_of s ≤ 4 * s.left → with_digit true s ≡ one_round s
unfolding one_round
digit_one s l = sym (ap (λ (b : Bool). with_digit b s) (le-leb (trial_of s) (4 * s.left) l))

-- ---- after k rounds: r are the root's digits as a number
record Rounded (k n : ℕ) (s : PartialRoot) (r : ℕ) : Type 0 where
  units : s.root ≡ r * 2 ^ 32
  sum : r * r * 2 ^ 32 + s.left ≡ n * (2 ^ k * 2 ^ k)
  within : s.left < (2 * r + 1) * 2 ^ 32

four : (n k : ℕ) → n * (2 ^ suc k * 2 ^ suc k) ≡ 4 * (n * (2 ^ k * 2 ^ k))
four n k =
    ap (λ (x : ℕ). n * (x * x)) (pow-suc 2 k)
    ∙ ap (λ (x : ℕ). n * x) (mul-mul-mul_comm (2 ^ k) 2 (2 ^ k) 2)
    ∙ sym (mul_assoc n (2 ^ k * 2 ^ k) 4)
    ∙ mul_comm (n * (2 ^ k * 2 ^ k)) 4

next : (k n : ℕ) (s : PartialRoot) (r : ℕ) → Rounded k n s r → (q : ℕ) × Rounded (suc k) n (one_round s) q
unfolding one_round
next k n s r h = go (leb (trial_of s) (4 * s.left)) (leb→le (trial_of s) (4 * s.left)) (nleb→lt (trial_of s) (4 * s.left))
  where
    go : (b : Bool) → (T b → trial_of s ≤ 4 * s.left) → (T (not b) → 4 * s.left < trial_of s) → (q : ℕ) × Rounded (suc k) n (with_digit b s) q
    go true p q =
        (2 * r + 1, record { units = omega (arith, h.units); sum = omega (arith, half_square r, h.units, h.sum, four n k, p tt); within = omega (arith, h.units, h.within, p tt) })
    go false p q =
        (2 * r, record { units = omega (arith, h.units); sum = omega (arith, twice r, h.sum, four n k); within = omega (arith, h.units, q tt) })

rounded : (k n : ℕ) → n < 2 ^ 32 → (r : ℕ) × Rounded k n (rounds k n) r
unfolding rounds
rounded zero n h = (0, record { units = refl; sum = omega arith; within = omega arith })
rounded (suc k) n h = let d = rounded k n h in next k n (rounds k n) d.0 d.1

-- ---- a digit a round
module _ (n : ℕ) (h : n < 2 ^ 32) where
  abbrev digits : ℕ → ℕ
  digits k = (rounded k n h).0

  below : (k : ℕ) → digits k < 2 ^ k
  below k =
      let t = (rounded k n h).1 in
      let p = mul-lt-mul_of_pos_right h (mul-pos (pow_pos k) (pow_pos k)) in
      square_lt (digits k) (2 ^ k) (omega (arith, t.sum, p))

  -- n of 31 or 32 digits
  module _ (lo : 2 ^ 30 ≤ n) where
    above : (k : ℕ) → 2 ^ k ≤ digits (suc k)
    above k =
        let r = digits (suc k) in
        let t = (rounded (suc k) n h).1 in
        let p = mul-le-mul_right (2 ^ k * 2 ^ k) lo in
        let l = square_lt (2 ^ k) (r + 1) (next_square r (2 * r) (2 ^ k * 2 ^ k) (omega (arith, t.sum, t.within, p, four n k)) (omega arith)) in
        omega (arith, l)

    fewer : (j k : ℕ) → digits j ≡ digits k → k ≤ j
    fewer j zero e = omega arith
    fewer j (suc k) e =
        lt_of_not-le (λ (g : j ≤ k). lt_irrefl (digits j) (lt_of_lt_of_le (below j) (le_trans (pow_mono g) (subst (λ (r : ℕ). 2 ^ k ≤ r) (sym e) (above k)))))

root_is : (k n : ℕ) (h : n < 2 ^ 32) → (whole_of (rounds k n)).root ≡ digits n h k
unfolding whole_of
root_is k n h = omega (arith, (rounded k n h).1.units)

-- no two numbers of rounds make the same root of such an n
pub rounds_only : (j k n : ℕ) → 2 ^ 30 ≤ n → n < 2 ^ 32 → (whole_of (rounds j n)).root ≡ (whole_of (rounds k n)).root → j ≡ k
rounds_only j k n lo h e =
    let d = sym (root_is j n h) ∙ e ∙ root_is k n h in
    le_antisymm (fewer n h lo k j (sym d)) (fewer n h lo j k d)

-- ---- what the loop needs, and what 24 rounds leave
pub one_more : (k n : ℕ) → one_round (rounds k n) ≡ rounds (k + 1) n
unfolding rounds
one_more k n = ap (λ (j : ℕ). rounds j n) (sym (add-one k))

pub room : (k n : ℕ) → k ≤ 24 → n < 2 ^ 32 → ((rounds k n).root < 2 ^ 56) × ((rounds k n).left < 2 * (rounds k n).root + 2 ^ 32)
room k n l h =
    let t = (rounded k n h).1 in
    let b = lt_of_lt_of_le (below n h k) (pow_mono l) in
    (omega (arith, t.units, b), omega (arith, t.units, t.within))

pub whole : (n : ℕ) → n < 2 ^ 32 → Whole (n * 2 ^ 16) (whole_of (rounds 24 n))
unfolding whole_of
whole n h =
    let left = (rounds 24 n).left in
    let t = (rounded 24 n h).1 in
    let e = sym (root_is 24 n h) in
    record {
      sum = subst (λ (r : ℕ). r * r + left / 2 ^ 32 ≡ n * 2 ^ 16) e (omega (arith, t.sum));
      within = subst (λ (r : ℕ). left / 2 ^ 32 ≤ 2 * r) e (omega (arith, t.within));
    }
