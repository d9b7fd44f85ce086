-- `float::to_nearest` meets its contract: twice the rest is below the unit, above it or equal to it, as `closest` has it.
use Rattle.std.proofs.Common.{ℕ, ◌%◌, ◌^◌, ◌<◌, ◌≤◌, sym, mod-lt, arith, pow_pos, pow_mono}
use Rattle.float.proofs.Closest.{closest_down, closest_up, closest_tie, unit, rest}
use Rattle.float.proofs.to_nearest.Goals as goal

-- the rest is below the unit, which is at most 2 ^ 63

small : (m j : ℕ) → j < 64 → (m % 2 ^ j < 2 ^ j) × (2 ^ j ≤ 2 ^ 63)
small m j h = (mod-lt m (pow_pos j), pow_mono (let r : j ≤ 63 = omega arith in r))

pub returns-then-twice-unit : goal.returns-then-twice-unit
returns-then-twice-unit c =
    let a = c.args in
    let l = c.requires.1 in
    sym (closest_down a.m (2 ^ a.j) (omega (arith, rest a.m a.j l, unit a.j l)))

pub returns-then-unit-twice : goal.returns-then-unit-twice
returns-then-unit-twice c =
    let a = c.args in
    let l = c.requires.1 in
    sym (closest_up a.m (2 ^ a.j) (omega (arith, rest a.m a.j l, unit a.j l)))

pub returns : goal.returns
returns c =
    let a = c.args in
    let l = c.requires.1 in
    sym (closest_tie a.m (2 ^ a.j) (omega (arith, rest a.m a.j l, unit a.j l)))
