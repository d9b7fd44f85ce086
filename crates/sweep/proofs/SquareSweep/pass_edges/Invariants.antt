-- The loop's invariant: passing what is still due from here gives what passing it from the start gives. The measure is the edges left.
use Prim.Native.Nat.{◌-◌}
use mathlib.Core.Path.{◌≡◌}
use Rattle.sweep.specs.Sweep.{pass_edges, last_edge}
use Rattle.sweep.proofs.SquareSweep.pass_edges.Given as goal

abbrev pub invariant-loop-s : goal.invariant-loop-s
invariant-loop-s l = pass_edges l.elapsed_s l.s ≡ pass_edges l.elapsed_s l.initial.s

abbrev pub decreases-loop-s : goal.decreases-loop-s
decreases-loop-s l = last_edge - l.s.edge
