-- What stands behind the test is the plain call; and what is flown flies.
use mathlib.Core.Path.{◌≡◌, refl, ap, ◌∙◌}
use Rattle.std.specs.Prelude.{false}
use Rattle.std.proofs.Common.{rules}
use Rattle.account.specs.declared.IdentifyStatus.{IdentifyStatus}
use Rattle.account.specs.Probe.{clock}
use Rattle.steady.specs.Steady.{is_running}
use Rattle.identify.specs.Seen.{call_of}
use Rattle.probe_words.specs.Layout.{Scalars, probe_in}
use Rattle.rules.specs.Numbers.{numbered}
use Rattle.steady.specs.Band.{turns_back}
use Rattle.steady.specs.Kept.{clock_band}
use Rattle.live_probe.specs.Live.{over, Stepped, SameLent, kept_in, value_or}
use Rattle.steady_probe.specs.SteadyLive.{single, SteadyAnswers}
use Rattle.steady_probe.proofs.Behind.{by_test, guard_says}
use Rattle.steady_probe.proofs.Flying.{steps_flight, steps_too}
use Rattle.steady_probe.proofs.SteadyFlying.{probe, follows}
use Rattle.steady_probe.proofs.step.Goals as goal

pub returns : goal.returns
unfolding value_or
returns c =
    let a = c.args in
    let g = c.guard in
    let k = kept_in a.lent.now in
    let next = kept_in g.new.kept in
    let running = c.is_running-running.ensures ∙ ap (λ (s : IdentifyStatus). is_running (clock s)) (c.status.ensures.probe ∙ ap (λ (s : Scalars). (probe_in s).status) c.read.ensures) in
    let made : turns_back (clock_band a.clock.now) c.is_running-running.result a.call.dt ≡ false → Stepped k (call_of a.call) g.result next × SameLent a.lent.now g.new.kept = λ h. let r = g.ensures.made h in (search rules, search rules) in
    let told : SteadyAnswers (over a.clock.now g.new.self) (over k next) (call_of a.call) g.result = λ found.
    guard_says single a.clock.now g.new.self c.is_running-running.result k next (call_of a.call) g.result found (value_or g.result found) running (λ e. rw e refl)
    (λ h. let t = g.ensures.turned h in (t.0, ap kept_in t.1)) (λ h. (made h).0 found) g.ensures.clock in
    record {
      flight = told;
      clock = rw (← running) g.ensures.clock;
      same = by_test _ (λ h. rw (g.ensures.turned h).1 (search rules)) (λ h. (made h).1);
      flown = λ found. steps_flight probe follows a.clock.now g.new.self k next (call_of a.call) (numbered g.result) found (value_or g.result found) (told found);
      plain = λ h found. steps_too probe follows a.clock.now g.new.self k next (call_of a.call) (numbered g.result) found (value_or g.result found) (told found) h;
    }
