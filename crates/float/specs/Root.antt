-- The square root in f32: 01, "Stand-ins for libm and nalgebra". First a function that computes it, then, apart from it, what it is to be the nearest root.
use Rattle.std.specs.Prelude.{ℕ, zero, suc, ◌+◌, ◌-◌, ◌*◌, ◌/◌, ◌^◌, ◌<◌, ◌≤◌, true, false, cond, T, ◌==◌, nat_le, nat_lt, Float}
use Rattle.std.specs.Float.{nan, inf, fin, binary32}
use Rattle.std.specs.Float.Ieee.{up, down, size, units, round, le}
use Rattle.std.specs.Float.Ieee.Positive.{num, den}

-- the whole part of the square root of an n below 4 ^ d, binary digit by digit
unfoldable pub isqrt : ℕ → ℕ → ℕ
isqrt zero n = 0
isqrt (suc d) n = let r = 2 * isqrt d (n / 4) in cond (nat_le ((r + 1) * (r + 1)) n) (r + 1) r

-- the whole number nearest to the square root of an n below 4 ^ 24: no root of a whole number lies halfway, since (r + 1/2)² is r·r + r + 1/4
unfoldable pub near_root : ℕ → ℕ
unfolding isqrt
near_root n = let r = isqrt 24 n in cond (nat_lt (r * r + r) n) (r + 1) r

-- The root of n squares of the smallest f32, 2 ^ -149. It has half as many binary digits as n, and 24 of them are kept.
unfoldable pub root_of : ℕ → Float
unfolding near_root size units
root_of n =
    let k = (size n + 1) / 2 - 24 in
    units binary32 false (near_root (n / 2 ^ (2 * k))) k

-- "Root: the nearest f32 to the exact root of a positive finite value; 0 of 0, infinity of infinity."
-- -0 gives -0, and any other negative value NaN, as in IEEE 754.
unfoldable pub rooted : Float → Float
unfolding root_of
rooted nan = nan
rooted (inf false) = inf false
rooted (inf true) = nan
rooted (fin false m e) = root_of (m * up e * 2 ^ 298 / down e)
rooted (fin true m e) = cond (m == 0) (fin true m e) nan

-- The exact statement, over whole numbers: x is num x / den x, and a / c is below √x where a²·den x ≤ num x·c².
-- No fraction up to the root rounds to more than r, and none from the root on rounds to less.
pub record NearestRoot (x r : Float) : Type 0 where
  pub below : (a c : ℕ) → 0 < c → a * a * den x ≤ num x * (c * c) → T (le (round binary32 false a c) r)
  pub above : (a c : ℕ) → 0 < c → num x * (c * c) ≤ a * a * den x → T (le r (round binary32 false a c))
