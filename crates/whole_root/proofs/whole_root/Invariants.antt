-- `whole_root::whole_root` meets its contract. The loop's invariant: `s` is where the rounds so far lead. The measure is what is left of the 24.
use mathlib.Core.Path.{◌≡◌}
use Prim.Native.Nat.{◌-◌, ◌≤◌}
use Rattle.whole_root.specs.Rounds.{rounds}
use Rattle.whole_root.proofs.whole_root.Given as goal

abbrev pub invariant-loop : goal.invariant-loop
invariant-loop l = (l.counter ≤ 24) × (l.s ≡ rounds l.counter l.n)

abbrev pub decreases-loop : goal.decreases-loop
decreases-loop l = 24 - l.counter
