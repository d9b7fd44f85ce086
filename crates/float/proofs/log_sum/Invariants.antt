-- `last` is the sum after its first 7 - k terms: the next divisor is 2 * k - 1.
use Rattle.std.proofs.Common.{◌≡◌, ◌-◌, ◌≤◌}
use Rattle.float.specs.Log.{log_sum}
use Rattle.float.proofs.log_sum.Given as goal

abbrev pub invariant-loop-k : goal.invariant-loop-k
invariant-loop-k l = (l.k ≤ 7) × (l.last ≡ log_sum l.q (7 - l.k))
