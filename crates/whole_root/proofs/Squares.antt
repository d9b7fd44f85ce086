-- Squares of whole numbers.
use mathlib.Core.Path.{◌≡◌}
use Prim.Native.Nat.{ℕ, ◌+◌, ◌*◌, ◌≤◌, ◌<◌}
use native.Mathlib.Nat.{lt_of_not-le, not-le_of_lt, mul-le-mul, mul-mul-mul_comm, mul-add, add-mul}
use native.Mathlib.Omega.{arith}

pub twice : (a : ℕ) → 2 * a * (2 * a) ≡ 4 * (a * a)
twice a = mul-mul-mul_comm 2 a 2 a

pub half_square : (q : ℕ) → (2 * q + 1) * (2 * q + 1) ≡ 4 * (q * q + q) + 1
half_square q = omega (arith, mul-add (2 * q + 1) (2 * q) 1, add-mul (2 * q) 1 (2 * q), twice q)

pub square_lt : (x y : ℕ) → x * x < y * y → x < y
square_lt x y h = lt_of_not-le (λ (g : y ≤ x). not-le_of_lt h (mul-le-mul g g))

-- (r + 1)² is r² + 2·r + 1
pub next_square : (r rest p : ℕ) → p ≤ r * r + rest → rest ≤ 2 * r → p < (r + 1) * (r + 1)
next_square r rest p h w = omega (arith, mul-add (r + 1) r 1, add-mul r 1 r)
