-- `integrated::fit_long` meets its contract: the fit from the prepared series is the window's, at each step and pole (`window_is`, proofs/Choice.antt).
use Rattle.std.proofs.Common.{◌-◌, ◌≤◌, length, replicate, ◌∙◌, arith}
use lib.ListN.{length-replicate}
use Rattle.float.specs.Values.{zero64}
use Rattle.gain.specs.Gain.{first_tick}
use Rattle.integrated.proofs.Choice.{window_is}
use Rattle.integrated.proofs.fit_long.Goals as goal

pub returns : goal.returns
returns c =
    let a = c.args in
    let h : a.n - first_tick ≤ length (replicate 2048 zero64) = rw length-replicate (omega (arith, c.requires)) in
    let e = window_is a.rates.now a.moments.now a.dt_s _ a.n _ _ _ _ _ c.requires.1 h h (c.from-carry.ensures ∙ c.carry.ensures) c.prepare-shared.ensures in
    rw (← e) c.search.ensures
