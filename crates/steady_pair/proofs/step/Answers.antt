-- What stands behind the test is the plain call; and what is flown flies.
use mathlib.Core.Path.{◌≡◌, refl, ap, ap₂, ◌∙◌}
use Rattle.std.specs.Prelude.{Bool, false, ◌&&◌}
use Rattle.std.proofs.Common.{rules}
use Rattle.account.specs.declared.IdentifyStatus.{IdentifyStatus}
use Rattle.account.specs.Probe.{clock}
use Rattle.probe_words.specs.Layout.{Scalars, probe_in}
use Rattle.rules.specs.Numbers.{numbered}
use Rattle.steady.specs.Band.{turns_back}
use Rattle.steady.specs.Kept.{clock_band}
use Rattle.steady.specs.Steady.{is_running}
use Rattle.two_axis_probe.specs.Stepped.{two_call_of}
use Rattle.live_probe.specs.Live.{over}
use Rattle.live_pair.specs.Pair.{pair_in, PairAnswers, SamePair, offsets_or}
use Rattle.steady_probe.proofs.Behind.{by_test, guard_says}
use Rattle.steady_probe.proofs.Flying.{steps_flight, steps_too}
use Rattle.steady_pair.specs.SteadyPair.{double, pair_runs, SteadyPairAnswers}
use Rattle.steady_pair.proofs.SteadyPairFlying.{pair, follows}
use Rattle.steady_pair.proofs.step.Goals as goal

pub returns : goal.returns
unfolding offsets_or
returns c =
    let a = c.args in
    let g = c.guard in
    let k = pair_in a.lent.now in
    let next = pair_in g.new.kept in
    let both = c.is_running-running1.result && c.is_running-running2.result in
    let running : both ≡ pair_runs k = ap₂ (λ (r s : Bool). r && s)
    (c.is_running-running1.ensures ∙ ap (λ (s : IdentifyStatus). is_running (clock s)) (c.status.ensures.probe ∙ ap (λ (s : Scalars). (probe_in s).status) c.read.ensures))
    (c.is_running-running2.ensures ∙ ap (λ (s : IdentifyStatus). is_running (clock s)) (c.status-2.ensures.probe ∙ ap (λ (s : Scalars). (probe_in s).status) c.read-2.ensures)) in
    let made : turns_back (clock_band a.clock.now) both a.call.dt ≡ false → PairAnswers k (two_call_of a.call) g.result next × SamePair a.lent.now g.new.kept = λ h. let r = g.ensures.made h in (search rules, search rules) in
    let told : SteadyPairAnswers (over a.clock.now g.new.self) (over k next) (two_call_of a.call) g.result = λ found.
    guard_says double a.clock.now g.new.self both k next (two_call_of a.call) g.result found (offsets_or g.result found) running (λ e. rw e refl)
    (λ h. let t = g.ensures.turned h in (t.0, ap pair_in t.1)) (λ h. (made h).0 found) g.ensures.clock in
    record {
      flight = told;
      clock = rw (← running) g.ensures.clock;
      same = by_test _ (λ h. rw (g.ensures.turned h).1 (search rules)) (λ h. (made h).1);
      flown = λ found. steps_flight pair follows a.clock.now g.new.self k next (two_call_of a.call) (numbered g.result) found (offsets_or g.result found) (told found);
      plain = λ h found. steps_too pair follows a.clock.now g.new.self k next (two_call_of a.call) (numbered g.result) found (offsets_or g.result found) (told found) h;
    }
