-- `float::squared_ten_times` meets its contract. The loop's invariant: the squarings that are left take `power` to the answer. The measure is their number.
use Rattle.std.proofs.Common.{◌≡◌, ◌-◌, ◌≤◌}
use Rattle.float.specs.Exp.{squared}
use Rattle.float.proofs.squared_ten_times.Given as goal

abbrev pub invariant-loop : goal.invariant-loop
invariant-loop l = (l.counter ≤ 10) × (squared (10 - l.counter) l.power ≡ squared 10 l.x)

abbrev pub decreases-loop : goal.decreases-loop
decreases-loop l = 10 - l.counter
