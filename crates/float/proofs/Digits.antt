-- How many binary digits a number has.
use Rattle.std.proofs.Common.{◌≡◌, ℕ, ◌+◌, ◌^◌, ◌<◌, ◌≤◌, lt_of_lt_of_le, lt_of_not-le, not-le_of_lt, arith, pow_mono}
use lib.Ieee.{size}
use lib.Ieee.Digits.{size-lt, size-le}

pub size_gt : (n j : ℕ) → 2 ^ j ≤ n → j < size n
size_gt n j h = lt_of_not-le (λ (g : size n ≤ j). not-le_of_lt (lt_of_lt_of_le (size-lt n) (pow_mono g)) h)

pub size_is : (n j : ℕ) → 2 ^ j ≤ n → n < 2 ^ (j + 1) → size n ≡ j + 1
size_is n j lo hi =
    let a = size-le n (j + 1) hi in
    let b = size_gt n j lo in
    omega arith
