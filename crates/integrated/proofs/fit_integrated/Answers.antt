-- `integrated::fit_integrated` meets its contract: a window's fit reads its lists below its length alone (proofs/Prefix.antt).
use Rattle.std.proofs.Common.{◌≡◌, length, take, ◌∙◌, arith, length-take-le}
use Rattle.integrated.proofs.Prefix.{short, enough}
use Rattle.integrated.proofs.fit_integrated.Goals as goal

pub returns-then-n-le12 : goal.returns-then-n-le12
returns-then-n-le12 c =
    let a = c.args in
    let n = c.stored-n.result in
    let e : length (take n a.rates.now) ≡ n = length-take-le n a.rates.now (rw c.told-rates (omega arith)) in
    rw (← c.stored-n.ensures) (c.no_model.ensures ∙ short a.rates.now a.moments.now a.duration_s n e c.if-n-le12.true)

pub returns : goal.returns
returns c =
    let a = c.args in
    let n = c.stored-n.result in
    let e : length (take n a.rates.now) ≡ n = length-take-le n a.rates.now (rw c.told-rates (omega arith)) in
    rw (← c.stored-n.ensures) (c.fit_long.ensures ∙ enough a.rates.now a.moments.now a.duration_s n e c.if-n-le12.false)
