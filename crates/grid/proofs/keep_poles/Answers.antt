use Rattle.std.proofs.Common.{◌≡◌, suc, ◌+◌, ◌*◌, ◌<◌, min, refl, ap, ◌∙◌, arith}
use Rattle.float.specs.Series.{fill}
use Rattle.lags.specs.Lags.{lag_count, pole_of}
use Rattle.kernel.specs.Kernel.{step_fits}
use Rattle.grid.specs.Grid.{kept_to, low_end, kept_at}
use Rattle.gain.specs.Prepared.{fit_of}
use Rattle.grid.proofs.Tables.{Poles, table_first, bracket_is, pole_is, pole_more}
use Rattle.grid.proofs.keep_poles.Goals as goal

pub loop-i-init : goal.loop-i-init
unfolding fill kept_to low_end pole_of
loop-i-init c = (refl, refl, refl)

pub loop-q-init : goal.loop-q-init
loop-q-init c = let e : c.loop-i.i * 3 + 0 ≡ c.loop-i.i * 3 = omega arith in rw e c.loop-i.invariant.2

pub loop-q-preserved : goal.loop-q-preserved
loop-q-preserved c =
    let dt = c.args.dt_s in let fit = fit_of c.args.input in
    let h = c.loop-i.invariant in let i = c.loop-i.i in let q = c.loop-q.q in
    let poles : Poles dt i c.loop-i.pole c.pole-second.result c.pole-third.result c.loop-i.low c.pole-high.result = record {
      first = h.1;
      second = c.pole-second.ensures.0;
      third = c.pole-third.ensures.0;
      below = h.0;
      above = c.pole-high.ensures.0;
    } in
    let e : i * 3 + (q + 1) ≡ suc (i * 3 + q) = omega arith in
    let p : q < 3 = omega arith in
    let last : min q 2 ≡ q = omega arith in
    rw e (c.keep_each.ensures
    ∙ pole_more dt fit (i * 3 + q) c.fits.result _ c.loop-q.kept (bracket_is dt i _ _ _ _ _ poles (omega arith) _ q p)
    (rw last at c.fits.ensures ∙ c.new-table.ensures q p ∙ ap (step_fits fit) (pole_is dt i _ _ _ _ _ poles (omega arith) _ q p)) c.loop-q.invariant)

pub loop-i-preserved : goal.loop-i-preserved
unfolding low_end
loop-i-preserved c =
    let dt = c.args.dt_s in let i = c.loop-i.i in
    let y : (i + 1) * 3 ≡ suc (i * 3 + 2) = omega arith in
    let z : min (i * 3 + 2) lag_count ≡ i * 3 + 2 = omega arith in
    let v : min (i * 3 + 3) lag_count ≡ min ((i + 1) * 3) lag_count = omega arith in
    let e : i * 3 + c.loop-q.q ≡ (i + 1) * 3 = omega arith in
    (rw y (c.pole-third.ensures.0 ∙ ap (pole_of dt) z), c.pole-high.ensures.0 ∙ ap (pole_of dt) v, rw e at c.loop-q.invariant)

pub returns : goal.returns
unfolding kept_at
returns c = let k = c.loop-i in let e : k.i ≡ 43 = omega arith in table_first _ _ _ (rw e at k.invariant.2)
