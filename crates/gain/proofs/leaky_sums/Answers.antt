-- At its end the loop has filled the front of the list, and the rest stands behind it.
use Rattle.std.proofs.Common.{◌≡◌, ◌≤◌, length, ◌∙◌, ap, arith, ◌++◌, drop}
use Rattle.float.proofs.Fill.{fill_front}
use Rattle.gain.specs.Gain.{through}
use Rattle.gain.proofs.leaky_sums.Goals as goal

pub returns : goal.returns
returns g c = λ x h.
    let a = c.args in
    let n : c.loop-i.i ≡ a.ticks = omega arith in
    let room : a.ticks ≤ length a.sums.now = omega arith in
    rw n at (ap (λ l. l ++ drop a.ticks a.sums.now) (c.loop-i.invariant x h).1) ∙ fill_front (through a.carry x) a.sums.now a.ticks room
