use Rattle.std.proofs.Common.{◌≡◌, suc, ◌+◌, ◌-◌, ◌%◌, ◌<◌, [], ◌∷◌, ◌++◌, length, slice_range, take, zip, refl, ◌∙◌, arith, rules, length-append, length-take, get_or-take}
use Rattle.std.specs.Int.{from_bool}
use Rattle.std.proofs.lemmas.Iterator.{YieldsList-from_slice, YieldsList-from_zip}
use Rattle.std.proofs.lemmas.Iterator.Consumers.{YieldsList-turn, YieldsList-end}
use Rattle.std.proofs.lemmas.Slice.Zip.{length-zip}
use lib.Dec.{eqb}
use lib.Ieee.{nan}
use Rattle.float.specs.Series.{at}
use Rattle.lags.specs.Lags.{lag_to}
use Rattle.gain.specs.Gain.{felt}
use Rattle.gain.proofs.Accumulators.{start, next}
use Rattle.gain.proofs.Ranges.{range_at}
use Rattle.gain.proofs.Zipped.{turn}
use Rattle.trial.proofs.step_sums.Goals as goal

pub loop-moment-init : goal.loop-moment-init
loop-moment-init c =
    let f = c.first_moment-first.result in let e : f + 0 ≡ f = omega arith in
    let h = c.lag_before-lagged.ensures in
    rw e (h, c.from-last.ensures ∙ h, start _ _ _ _)

pub loop-moment-preserved : goal.loop-moment-preserved
unfolding lag_to felt
loop-moment-preserved c =
    let a = c.args in let ms = a.input.moments.now in let n = c.fitted-n.result in
    let f = c.first_moment-first in let k = length c.loop-moment.yielded in let h = c.loop-moment.invariant in
    let part = slice_range ms f.result (f.result + n) in let cs = take n a.input.constants.now in let ts = take n a.input.changes.now in
    let road = YieldsList-from_zip {s = c.into_iter-moment-iterator.result} (YieldsList-from_zip (YieldsList-from_slice part (search rules)) (YieldsList-from_slice cs (search rules))) (YieldsList-from_slice ts (search rules)) in
    let given = YieldsList-turn road c.loop-moment.yielded _ c.loop-moment.yielded_by _ c.next.new.self ((c.in-Some.moment, c.in-Some.c), c.in-Some.t) c.in-Some.is c.next.ensures.steps in
    let here = turn part cs ts k _ nan _ _ given.0 given.1 in
    let p : k < n = omega (arith, given.0, length-zip (zip part cs) ts, length-take n a.input.changes.now) in
    let q : k < f.result + n - f.result = omega arith in
    let long : f.result + length (c.loop-moment.yielded ++ ((c.in-Some.moment, c.in-Some.c), c.in-Some.t) ∷ []) ≡ suc (f.result + k) = rw length-append (omega arith) in
    let more : length (c.loop-moment.yielded ++ ((c.in-Some.moment, c.in-Some.c), c.in-Some.t) ∷ []) ≡ k + 1 = rw length-append refl in
    let moment = here.value ∙ range_at ms f.result (f.result + n) k nan q in
    let constant = here.constant ∙ get_or-take n a.input.constants.now k nan p in
    let change = here.change ∙ get_or-take n a.input.changes.now k nan p in
    let next_is : c.lag_on-lagged.result ≡ lag_to a.pole (at ms) (suc (f.result + k)) = rw (c.lag_on-lagged.ensures, h.0, moment) refl in
    let now_is = c.from-now.ensures ∙ next_is in
    let sum = c.plus-sums.ensures in
    let b : from_bool (eqb (a.step % 2) 1) ≡ a.step % 2 = search rules in (
      rw long next_is,
      rw long now_is,
      rw more (next _ _ _ _ k _ _ _ _ _ h.2 (c.blend.ensures ∙ rw (b, now_is, h.1, f.ensures) refl) refl sum.squares (rw constant at sum.constants) (rw change at sum.targets)),
    )

pub returns : goal.returns
returns c =
    let a = c.args in let n = c.fitted-n.result in let f = c.first_moment-first.result in
    let part = slice_range a.input.moments.now f (f + n) in let cs = take n a.input.constants.now in let ts = take n a.input.changes.now in
    let road = YieldsList-from_zip {s = c.into_iter-moment-iterator.result} (YieldsList-from_zip (YieldsList-from_slice part (search rules)) (YieldsList-from_slice cs (search rules))) (YieldsList-from_slice ts (search rules)) in
    let all = YieldsList-end road c.loop-moment.yielded _ c.loop-moment.yielded_by _ c.next.new.self c.in-None.is c.next.ensures.steps in
    let e : length c.loop-moment.yielded ≡ n = omega (arith, all.1, length-zip (zip part cs) ts, length-zip part cs) in
    rw (e, c.fitted-n.ensures) at c.loop-moment.invariant.2.sums
