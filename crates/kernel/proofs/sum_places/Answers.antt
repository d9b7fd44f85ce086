use Rattle.std.proofs.Common.{◌≡◌, ◌≤◌, ◌-◌, ◌+◌, ◌*◌, min, refl, arith}
use Rattle.float.specs.Series.{at}
use Rattle.lanes.specs.Lanes.{block_ticks, last_block}
use Rattle.lanes.proofs.Blocks.{lags_begin, lags_go_on, block_lane}
use Rattle.kernel.specs.Kernel.{whole_ticks}
use Rattle.kernel.proofs.Blocks.{begin, over, turn, all}
use Rattle.kernel.proofs.sum_places.Goals as goal

pub loop-b-init : goal.loop-b-init
loop-b-init c =
    let e : min 0 (c.fitted-n.result + 11) ≡ 0 = omega arith in
    (omega arith, refl, rw e (lags_begin c.args.poles (at c.args.input.moments.now)), begin _ _)

pub loop-d-preserved : goal.loop-d-preserved
loop-d-preserved c =
    let z : min c.loop-b.b last_block ≡ c.loop-b.b = omega arith in
    let y : min (c.loop-b.b * block_ticks) (c.fitted-n.result + 11) ≡ c.loop-b.b * block_ticks = omega arith in
    let block = rw z at c.lag_block-next.ensures in
    let stood = rw y at c.loop-b.invariant.2 in
    turn _ _ _ _ _ _ c.lag_block-next.new.ticks c.loop-d.invariant (omega arith)
    (λ h j p o. block_lane _ _ _ _ _ _ _ _ stood block (rw c.loop-b.invariant.1 (omega arith)) h j p (rw c.fitted-n.ensures o)) c.sum_block.ensures

pub loop-b-preserved : goal.loop-b-preserved
loop-b-preserved c =
    let b = c.loop-b.b in let n = c.fitted-n.result in
    let z : min b last_block ≡ b = omega arith in
    let y : min (b * block_ticks) (n + 11) ≡ b * block_ticks = omega arith in
    let block = rw z at c.lag_block-next.ensures in
    let stood = rw y at c.loop-b.invariant.2 in
    let e : c.loop-d.d ≡ whole_ticks = omega arith in
    let k : (b + 1) * block_ticks ≡ b * block_ticks + block_ticks = omega arith in
    let m : b * block_ticks + min (n + 11 - b * block_ticks) block_ticks ≡ min ((b + 1) * block_ticks) (n + 11) = omega arith in (
      omega arith,
      c.type_inv.ticks,
      rw m at (lags_go_on _ _ _ _ _ _ _ _ stood block),
      rw k (over _ _ _ _ (rw e at c.loop-d.invariant)),
    )

pub returns : goal.returns
returns c =
    let k = c.loop-b in let h : c.fitted-n.result + 11 ≤ k.b * block_ticks = omega arith in all _ _ _ _ k.invariant.3 (rw c.fitted-n.ensures at h)
