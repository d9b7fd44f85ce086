-- m / b to the nearest whole number, at a tie to the even one: by how twice the remainder compares with b.
use Rattle.std.proofs.Common.{◌≡◌, ℕ, ◌+◌, ◌-◌, ◌*◌, ◌/◌, ◌%◌, ◌^◌, ◌<◌, ◌≤◌, not, T, eqb, sym, refl, ap, ◌∙◌, subst, le_trans, lt_trans, le_of_eq, lt_of_lt_of_le, lt_irrefl, mod-eq_of_lt, one-mul, le-div_iff_mul-le, add-one, arith, lit<, eqb→eq, leb→le, pow_pos, pow_mono, pow-add, shl_exact, shr_lt}
use Prim.Native.Nat.{compare, Ordering}
use native.Mathlib.Nat.{div-eq_of_lt}
use lib.Arith.{lt_of_le-ne}
use lib.Bits.{bit_and, and_mask}
use lib.Dec.{is_le, compare_is_eq, nleb→lt, eqb_refl}
use lib.Ieee.{nearest}
use lib.Ieee.Fits.{nearest-le}
use lib.Ieee.Nearest.{closest, nearest-ge}

-- what `compare` says
abbrev Cmp : Ordering → ℕ → ℕ → Type 0
Cmp Ordering.lt a b = a < b
Cmp Ordering.eq a b = a ≡ b
Cmp Ordering.gt a b = b < a

cmp : (a b : ℕ) → Cmp (compare a b) a b
cmp a b = go (compare a b) (leb→le a b) (nleb→lt a b) (eqb→eq a b) (λ (e : a ≡ b). subst (λ (x : ℕ). T (eqb a x)) e (eqb_refl a))
  where
    go : (o : Ordering) → (T (is_le o) → a ≤ b) → (T (not (is_le o)) → b < a) → (T (compare_is_eq o) → a ≡ b) → (a ≡ b → T (compare_is_eq o)) → Cmp o a b
    go Ordering.lt h k e n = lt_of_le-ne (h tt) n
    go Ordering.eq h k e n = e tt
    go Ordering.gt h k e n = k tt

down : (q a b : ℕ) (o : Ordering) → Cmp o a b → a < b → nearest q o ≡ q
down q a b Ordering.lt c h = refl
down q a b Ordering.eq c h = absurd (lt_irrefl b (subst (λ (x : ℕ). x < b) c h))
down q a b Ordering.gt c h = absurd (lt_irrefl a (lt_trans h c))

up : (q a b : ℕ) (o : Ordering) → Cmp o a b → b < a → nearest q o ≡ q + 1
up q a b Ordering.lt c h = absurd (lt_irrefl a (lt_trans c h))
up q a b Ordering.eq c h = absurd (lt_irrefl b (subst (λ (x : ℕ). b < x) c h))
up q a b Ordering.gt c h = sym (add-one q)

tie : (q a b : ℕ) (o : Ordering) → Cmp o a b → a ≡ b → nearest q o ≡ q + q % 2
tie q a b Ordering.lt c h = absurd (lt_irrefl b (subst (λ (x : ℕ). x < b) h c))
tie q a b Ordering.eq c h = refl
tie q a b Ordering.gt c h = absurd (lt_irrefl b (subst (λ (x : ℕ). b < x) h c))

pub closest_down : (m b : ℕ) → m % b * 2 < b → closest m b ≡ m / b
closest_down m b h = down (m / b) (m % b * 2) b (compare (m % b * 2) b) (cmp (m % b * 2) b) h

pub closest_up : (m b : ℕ) → b < m % b * 2 → closest m b ≡ m / b + 1
closest_up m b h = up (m / b) (m % b * 2) b (compare (m % b * 2) b) (cmp (m % b * 2) b) h

pub closest_tie : (m b : ℕ) → m % b * 2 ≡ b → closest m b ≡ m / b + m / b % 2
closest_tie m b h = tie (m / b) (m % b * 2) b (compare (m % b * 2) b) (cmp (m % b * 2) b) h

-- less than half of b gives 0
pub closest_zero : (m b : ℕ) → m * 2 < b → closest m b ≡ 0
closest_zero m b h =
    let l : m < b = omega arith in
    closest_down m b (subst (λ (x : ℕ). x * 2 < b) (sym (mod-eq_of_lt l)) h) ∙ div-eq_of_lt l

-- an m of at most 24 + j binary digits leaves 24, or the next power of two
pub closest_le : (w m j : ℕ) → m < 2 ^ w → w ≤ 24 + j → closest m (2 ^ j) ≤ 2 ^ 24
closest_le w m j h g =
    le_trans (nearest-le (m / 2 ^ j) (compare (m % 2 ^ j * 2) (2 ^ j)))
    (shr_lt 24 j (lt_of_lt_of_le h (pow_mono g)))

pub closest_ge : (m j : ℕ) → 2 ^ (23 + j) ≤ m → 2 ^ 23 ≤ closest m (2 ^ j)
closest_ge m j h =
    le_trans ((le-div_iff_mul-le (pow_pos j)).1 (le_trans (le_of_eq (sym (pow-add 2 23 j))) h))
    (nearest-ge (m / 2 ^ j) (compare (m % 2 ^ j * 2) (2 ^ j)))

-- 1 << j, and what the mask below it leaves
pub unit : (j : ℕ) → j < 64 → 1 * 2 ^ j % 2 ^ 64 ≡ 2 ^ j
unit j h = shl_exact 1 j 64 (lit< tt) (omega arith) ∙ one-mul (2 ^ j)

pub rest : (m j : ℕ) → j < 64 → bit_and m (1 * 2 ^ j % 2 ^ 64 - 1) ≡ m % 2 ^ j
rest m j h = ap (λ (u : ℕ). bit_and m (u - 1)) (unit j h) ∙ and_mask m j
