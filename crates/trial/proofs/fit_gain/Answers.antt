-- `trial::fit_gain` meets its contract: it is the fit from the prepared series, which is the window's (`fit_of_window`, gain/proofs/Window.antt).
use Rattle.std.proofs.Common.{◌-◌, ◌≤◌, min, length, replicate, ◌∙◌, arith}
use lib.ListN.{length-replicate}
use Rattle.float.specs.Values.{zero64}
use Rattle.float.specs.Series.{at}
use Rattle.gain.specs.Gain.{first_tick}
use Rattle.gain.proofs.Window.{fit_of_window}
use Rattle.trial.proofs.fit_gain.Goals as goal

pub returns : goal.returns
returns c =
    let a = c.args in
    let h : min a.len 2048 - first_tick ≤ length (replicate 2048 zero64) = rw length-replicate (omega arith) in
    c.fit_at.ensures ∙ fit_of_window a.carry (at a.moments.now) (at a.rates.now) _ _ _ _ _ _ (omega arith) h h c.prepare-shared.ensures a.step a.pole
