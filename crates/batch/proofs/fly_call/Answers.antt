-- The call and its answer are parts of all calls and of the output, each at its place.
use Rattle.std.proofs.Common.{arith}
use Rattle.batch.proofs.Flying.{flies_on}
use Rattle.batch.proofs.fly_call.Goals as goal

pub returns : goal.returns
returns g c =
    let a = c.args in
    let f = g.F.Flight in
    flies_on a.sizes f.stands f.answers a.calls.now a.k _ _ (omega arith) (omega arith) c.step.new.answer a.output.now c.step.auto.answer (omega (arith, c.requires.answer)) (rw (← c.requires.sizes) at c.step.ensures)
