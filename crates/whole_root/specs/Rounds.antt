-- The whole-number root bit by bit: 02, request three.
-- "build the whole-number root bit by bit, in at most 32 rounds and with no division but by a constant power of two"
use Rattle.std.specs.Prelude.{◌≡◌, Bool, true, false, ℕ, zero, suc, ◌+◌, ◌-◌, ◌*◌, ◌/◌, ◌^◌, ◌≤◌, leb}
use Rattle.whole_root.specs.declared.PartialRoot.{PartialRoot}
use Rattle.whole_root.specs.declared.WholeRoot.{WholeRoot}

-- In a round the number grows fourfold and so its root twofold, and the root gets one binary digit. All is in units of 2 ^ 32.

-- what the digit 1 takes: (root + 1)² - root² = 2·root + 1, of the root that has grown
abbrev pub trial_of : PartialRoot → ℕ
trial_of s = 2 * (2 * s.root) + 2 ^ 32

-- the root with the next digit, 1 or 0
abbrev pub with_digit : Bool → PartialRoot → PartialRoot
with_digit true s = record { root = 2 * s.root + 2 ^ 32; left = 4 * s.left - trial_of s }
with_digit false s = record { root = 2 * s.root; left = 4 * s.left }

-- one round
unfoldable pub one_round : PartialRoot → PartialRoot
one_round s = with_digit (leb (trial_of s) (4 * s.left)) s

-- where k rounds lead, from n
unfoldable pub rounds : ℕ → ℕ → PartialRoot
rounds zero n = record { root = 0; left = n }
rounds (suc k) n = one_round (rounds k n)

-- in whole units
unfoldable pub whole_of : PartialRoot → WholeRoot
whole_of s = record { root = s.root / 2 ^ 32; rest = s.left / 2 ^ 32 }

-- `root` is the whole part of the square root of N, and `rest` what N is above its square: N is below (root + 1)² = root² + 2·root + 1.
pub record Whole (N : ℕ) (w : WholeRoot) : Type 0 where
  pub sum : w.root * w.root + w.rest ≡ N
  pub within : w.rest ≤ 2 * w.root
