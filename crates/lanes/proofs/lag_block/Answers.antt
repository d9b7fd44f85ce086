use Rattle.std.proofs.Common.{◌≡◌, ◌≤◌, length, take, arith, length-take-le}
use Rattle.lanes.proofs.Lags.{begin, turn, ended}
use Rattle.lanes.proofs.lag_block.Goals as goal

pub loop-k-init : goal.loop-k-init
loop-k-init c =
    let n : length c.args.lagged ≡ 3 = omega (arith, c.well_formed.1.1.0) in begin _ _ _ _ _ n c.widened-older.ensures

pub loop-k-preserved : goal.loop-k-preserved
loop-k-preserved c = turn _ _ _ _ _ _ _ _ _ _ _ c.loop-k.invariant c.lags_on-next.ensures c.widened-newer.ensures c.tick_lanes.ensures

pub returns : goal.returns
returns c =
    let n = c.min-n.result in
    let h : n ≤ length c.args.ticks.now = omega arith in
    let long : length (take n c.args.ticks.now) ≡ n = length-take-le n c.args.ticks.now h in
    rw (← c.min-n.ensures, ← c.min-first.ensures) (ended _ _ _ _ n c.loop-k.k _ _ _ c.loop-k.invariant (omega arith) h)
