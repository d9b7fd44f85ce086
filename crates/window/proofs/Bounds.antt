-- No count of the first n ticks, and no run among them, is above n.
use Prim.Native.Nat.{ℕ, zero, suc, ◌≤◌}
use mathlib.Core.Bool.{Bool, true, false, cond}
use mathlib.Core.List.{List}
use native.Mathlib.Omega.{arith}
use Rattle.window.specs.Walk.{run, over, mark_at}
use Rattle.window.specs.Arrays.{many_to}

at_most : (b : Bool) (m n : ℕ) → m ≤ n → cond b (suc m) m ≤ suc n
at_most true m n h = omega arith
at_most false m n h = omega arith

pub many_at_most : (such : Bool → ℕ → Bool) (marks : List Bool) (n : ℕ) → many_to such marks n ≤ n
unfolding many_to over
many_at_most such marks zero = omega arith
many_at_most such marks (suc n) = at_most (such (mark_at marks n) (run (mark_at marks) n)) (many_to such marks n) n (many_at_most such marks n)

emptied : (b : Bool) (m n : ℕ) → m ≤ n → cond b 0 (suc m) ≤ suc n
emptied true m n h = omega arith
emptied false m n h = omega arith

pub run_at_most : (mark : ℕ → Bool) (n : ℕ) → run mark n ≤ n
unfolding run
run_at_most mark zero = omega arith
run_at_most mark (suc n) = emptied (mark n) (run mark n) n (run_at_most mark n)
