-- The sizes of a run: what its answers take, and where its calls stand.
use Prim.Native.Nat.{ℕ, ◌+◌, ◌*◌, ◌/◌, ◌%◌, ◌≤◌, ◌<◌}
use mathlib.Core.Path.{◌≡◌}
use mathlib.Core.Bool.{true, ◌&&◌, and-eq-true_iff}
use mathlib.Core.List.{List}
use native.Mathlib.Nat.{mul-le-mul_left, mul-le-mul_right, mul-div-le, mul-suc}
use native.Mathlib.Omega.{arith}
use borrow.Author.Tests.{leb-true}
use lib.Dec.{eqb}
use lib.ListN.{length}
use Rattle.batch.specs.declared.Sizes.{Sizes}
use Rattle.batch.specs.Sized.{sized}

-- answers no longer than their calls
pub answers_fit : (answer call n : ℕ) → answer ≤ call → answer * (n / call) ≤ n
answers_fit answer call n h = omega (arith, mul-le-mul_right (n / call) h, mul-div-le n call)

-- slices that pass rule 9
pub output_size : (s : Sizes) (config calls output : List ℕ) → sized s config calls output ≡ true → s.report + s.answer * (length calls / s.call) ≤ length output
unfolding sized
output_size s config calls output good =
    let front = eqb (length config) 24 && eqb (length calls % s.call) 0 in
    leb-true (s.report + s.answer * (length calls / s.call)) (length output) ((and-eq-true_iff front _).0 good).1

-- a call that stands within the bytes
pub calls_fit : (size n k : ℕ) → k < n / size → size * k + size ≤ n
calls_fit size n k h = omega (arith, mul-le-mul_left size h, mul-suc size k, mul-div-le n size)
