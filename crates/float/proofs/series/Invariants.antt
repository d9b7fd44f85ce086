-- `last` is the series after its first 8 - n terms: the next divisor is n.
use Rattle.std.proofs.Common.{◌≡◌, ◌-◌, ◌≤◌}
use Rattle.float.specs.Exp.{horner}
use Rattle.float.proofs.series.Given as goal

abbrev pub invariant-loop-n : goal.invariant-loop-n
invariant-loop-n l = (l.n ≤ 8) × (l.last ≡ horner l.t (8 - l.n))
