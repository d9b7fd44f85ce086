-- A walk over the ticks below n reads a window's marks below n alone.
use Prim.Native.Nat.{ℕ, zero, suc, ◌<◌, ◌≤◌}
use mathlib.Core.Path.{◌≡◌, refl}
use mathlib.Core.Bool.{Bool, false}
use mathlib.Core.List.{List}
use native.Mathlib.Omega.{arith}
use lib.ListN.{take, length}
use lib.Seq.{get_or-take}
use Rattle.window.specs.Walk.{run, over, many, mark_at}

run_take : (marks : List Bool) (n k : ℕ) → k ≤ n → run (mark_at (take n marks)) k ≡ run (mark_at marks) k
unfolding run
run_take marks n zero h = refl
run_take marks n (suc k) h = let l : k ≤ n = omega arith in rw (get_or-take n marks k false h, run_take marks n k l)

pub over_take : {S : Type 0} (such : Bool → ℕ → Bool) (marks : List Bool) (f g : S → ℕ → S) (s : S) (n k : ℕ) → k ≤ n → ((x : S) (i : ℕ) → i < n → f x i ≡ g x i)
    → over such (mark_at (take n marks)) f s k ≡ over such (mark_at marks) g s k
unfolding over
over_take such marks f g s n zero h e = refl
over_take such marks f g s n (suc k) h e =
    let l : k ≤ n = omega arith in
    rw (get_or-take n marks k false h, run_take marks n k l, over_take such marks f g s n k l e, e (over such (mark_at marks) g s k) k h)

pub many_take : (such : Bool → ℕ → Bool) (marks : List Bool) (n : ℕ) → length (take n marks) ≡ n → many such (take n marks) ≡ over such (mark_at marks) (λ (m k : ℕ). suc m) 0 n
unfolding many
many_take such marks n h = rw h (over_take such marks _ _ 0 n n (omega arith) (λ x i l. refl))
