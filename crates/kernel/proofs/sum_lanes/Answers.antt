-- The pair of this turn are the tick and the values of the two series that stand after those so far.
use Rattle.std.proofs.Common.{◌≡◌, suc, [], ◌∷◌, ◌++◌, length, refl, ◌∙◌, rules, arith, length-append}
use Rattle.std.proofs.lemmas.Iterator.{YieldsList-from_slice, YieldsList-from_zip}
use Rattle.std.proofs.lemmas.Iterator.Consumers.{YieldsList-turn}
use Rattle.kernel.specs.Kernel.{sums_on}
use Rattle.gain.proofs.Zipped.{turn}
use Rattle.kernel.proofs.sum_lanes.Goals as goal

pub loop-tick-init : goal.loop-tick-init
unfolding sums_on
loop-tick-init c = λ h p. refl

pub loop-tick-preserved : goal.loop-tick-preserved
unfolding sums_on
loop-tick-preserved c =
    let a = c.args in
    let road = YieldsList-from_zip {s = c.into_iter-tick-iterator.result} (YieldsList-from_zip (YieldsList-from_slice a.ticks.now (search rules)) (YieldsList-from_slice a.constants.now (search rules))) (YieldsList-from_slice a.changes.now (search rules)) in
    let at = YieldsList-turn road c.loop-tick.yielded _ c.loop-tick.yielded_by _ c.next.new.self ((c.in-Some.tick, c.in-Some.c), c.in-Some.t) c.in-Some.is c.next.ensures.steps in
    let here = turn a.ticks.now a.constants.now a.changes.now (length c.loop-tick.yielded) _ [] _ _ at.0 at.1 in
    let n : length (c.loop-tick.yielded ++ ((c.in-Some.tick, c.in-Some.c), c.in-Some.t) ∷ []) ≡ suc (length c.loop-tick.yielded) = rw length-append (omega arith) in
    λ h p. rw n (c.plus-next.ensures h p ∙ rw (here.value, here.constant, here.change, ← (c.loop-tick.invariant h p)) refl)
