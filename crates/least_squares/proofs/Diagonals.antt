-- A diagonal that is not above 0 where it is tested makes the whole test fail.
use Rattle.std.proofs.Math.Bool.{and-false}
use Prim.Native.Nat.{ℕ, zero, suc, ◌≤◌, ◌<◌}
use mathlib.Core.Path.{◌≡◌}
use mathlib.Core.Bool.{false}
use mathlib.Core.Logic.{⊎_elim}
use native.Mathlib.Nat.{eq-or-lt_of_le}
use native.Mathlib.Omega.{arith}
use lib.Ieee.{lt}
use Rattle.float.specs.Values.{zero32}
use Rattle.cholesky.specs.ColumnOrder.{Matrix, tested_diagonal, tested_above}

pub fails : (a : Matrix) (n j : ℕ) → j < n → lt zero32 (tested_diagonal a j) ≡ false → tested_above a n ≡ false
unfolding tested_above
fails a zero j h e = absurd (omega arith)
fails a (suc n) j h e =
    let t : j ≤ n = omega arith in
    ⊎_elim
    (λ (q : j ≡ n). rw (← q, e) (and-false (tested_above a j)))
    (λ (q : j < n). rw (fails a n j q e))
    (eq-or-lt_of_le t)
