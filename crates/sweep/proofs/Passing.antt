-- One step of the count of edges: none is due, the last edge is reached, or one more is passed.
use Prim.Native.Nat.{ℕ, zero, suc, ◌-◌, ◌≤◌, ◌<◌}
use mathlib.Core.Path.{◌≡◌, refl}
use mathlib.Core.Bool.{true, false}
use native.Mathlib.Omega.{arith}
use lib.Ieee.{Float}
use Rattle.sweep.specs.declared.SquareSweep.{SquareSweep}
use Rattle.sweep.specs.Sweep.{pass_edge, due, pass_due, pass_edges, last_edge}

none_passed : (n : ℕ) (elapsed : Float) (s : SquareSweep) → pass_due n false elapsed s ≡ s
unfolding pass_due
none_passed zero elapsed s = refl
none_passed (suc n) elapsed s = refl

pub not_due : (elapsed : Float) (s : SquareSweep) → due elapsed s ≡ false → pass_edges elapsed s ≡ s
unfolding pass_edges
not_due elapsed s h = rw h (none_passed (last_edge - s.edge) elapsed s)

pub at_last : (elapsed : Float) (s : SquareSweep) → last_edge ≤ s.edge → pass_edges elapsed s ≡ s
unfolding pass_edges pass_due
at_last elapsed s h = let none_left : last_edge - s.edge ≡ 0 = omega arith in rw none_left

pub one_passed : (elapsed : Float) (s : SquareSweep) → s.edge < last_edge → due elapsed s ≡ true → pass_edges elapsed s ≡ pass_edges elapsed (pass_edge s)
unfolding pass_edges pass_due pass_edge
one_passed elapsed s h d = let left : last_edge - s.edge ≡ suc (last_edge - suc s.edge) = omega arith in rw (left, d)
