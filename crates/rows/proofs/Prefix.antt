-- The sums over the ticks below n read a window's lists below n alone.
use Prim.Native.Nat.{ℕ, ◌+◌, ◌-◌, ◌<◌, ◌≤◌}
use mathlib.Core.Path.{◌≡◌, refl, sym, ◌∙◌}
use mathlib.Core.Bool.{Bool}
use mathlib.Core.List.{List}
use native.Mathlib.Omega.{arith}
use lib.ListN.{take}
use lib.Seq.{get_or-take}
use lib.Ieee.{Float, nan}
use Rattle.window.specs.Walk.{is_row}
use Rattle.window.proofs.Prefix.{over_take}
use Rattle.least_squares.specs.declared.Sums.{Sums}
use Rattle.rows.specs.Rows.{target, regressors, sum_rows, window_sums}
use Rattle.rows.proofs.Together.{add_row, window_walk}

pub sum_take : (marks : List Bool) (n : ℕ) (f : ℕ → Float) (s : Float) → sum_rows (take n marks) n f s ≡ sum_rows marks n f s
unfolding sum_rows
sum_take marks n f s = over_take is_row marks _ _ s n n (omega arith) (λ x i h. refl)

target_take : (rates : List Float) (n k : ℕ) → k < n → target (take n rates) k ≡ target rates k
unfolding target
target_take rates n k h = let l : k - 1 < n = omega arith in rw (get_or-take n rates k nan h, get_or-take n rates (k - 1) nan l)

regressors_take : (rates moments : List Float) (n d k : ℕ) → 1 ≤ d → k < n → regressors (take n rates) (take n moments) d k ≡ regressors rates moments d k
unfolding regressors
regressors_take rates moments n d k p h =
    let a : k - 1 < n = omega arith in
    let b : k - 2 < n = omega arith in
    let c : k + 1 - d < n = omega arith in
    let e : k - d < n = omega arith in
    let g : k - 1 - d < n = omega arith in
    rw (
      get_or-take n rates (k - 1) nan a,
      get_or-take n rates (k - 2) nan b,
      get_or-take n moments (k + 1 - d) nan c,
      get_or-take n moments (k - d) nan e,
      get_or-take n moments (k - 1 - d) nan g,
    )

row_take : (rates moments : List Float) (n d k : ℕ) (s : Sums) → 1 ≤ d → k < n → add_row (take n rates) (take n moments) d s k ≡ add_row rates moments d s k
unfolding add_row
row_take rates moments n d k s p h = rw (regressors_take rates moments n d k p h, target_take rates n k h)

pub window_take : (rates moments : List Float) (marks : List Bool) (n d : ℕ) (start : Sums) → 1 ≤ d
    → window_sums (take n rates) (take n moments) (take n marks) n d start ≡ window_sums rates moments marks n d start
window_take rates moments marks n d start p =
    window_walk (take n rates) (take n moments) (take n marks) d start n
    ∙ over_take is_row marks _ _ start n n (omega arith) (λ s k h. row_take rates moments n d k s p h)
    ∙ sym (window_walk rates moments marks d start n)
