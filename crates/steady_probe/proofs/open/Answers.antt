-- The option is told first, then what the plain opening answers; where it opens the clock is answered.
use mathlib.Core.Path.{◌≡◌}
use Rattle.std.specs.Prelude.{Err, Ok}
use Rattle.std.proofs.Common.{rules}
use Rattle.rules.specs.Numbers.{numbered}
use Rattle.probe_words.specs.Layout.{scalars_in}
use Rattle.live_probe.specs.Live.{over, value_or}
use Rattle.steady_probe.specs.Behind.{AnswersOpening}
use Rattle.steady_probe.specs.SteadyLive.{single}
use Rattle.steady_probe.proofs.Behind.{unknown, turned_away, opened}
use Rattle.steady_probe.proofs.Flying.{opens_flight, opens_too}
use Rattle.steady_probe.proofs.SteadyFlying.{probe, follows}
use Rattle.steady_probe.proofs.open.Goals as goal

pub returns-in_err-clock : goal.returns-in_err-clock
unfolding numbered value_or
returns-in_err-clock c =
    let a = c.args in
    let s = scalars_in a.lent.now in
    let r = c.in_err-clock.field-0.0 in
    let is : c.from_residual.result ≡ Err r = search rules in
    let told : AnswersOpening single a.options a.config (over s s) (Err r) = λ found. unknown single a.config s a.options found r (search rules) in
    rw is (record { opening = told; same = search rules; flown = opens_flight probe follows a.options a.config s s (Err r) told; plain = opens_too probe follows a.options a.config s s (Err r) told })

pub returns-in_err-open : goal.returns-in_err-open
unfolding numbered value_or
returns-in_err-open c =
    let a = c.args in
    let s = scalars_in a.lent.now in
    let t = scalars_in c.open.new.lent in
    let r = c.in_err-open.field-0.0 in
    let is : c.from_residual-in_err-open.result ≡ Err r = search rules in
    let told : AnswersOpening single a.options a.config (over s t) (Err r) = λ found. turned_away single a.config s a.options found c.in_ok-clock.clock r t (search rules) c.in_err-open.ensures.opening in
    rw is (record { opening = told; same = search rules; flown = opens_flight probe follows a.options a.config s t (Err r) told; plain = opens_too probe follows a.options a.config s t (Err r) told })

pub returns : goal.returns
unfolding numbered value_or
returns c =
    let a = c.args in
    let s = scalars_in a.lent.now in
    let t = scalars_in c.open.new.lent in
    let w = c.in_ok-clock.clock in
    let told : AnswersOpening single a.options a.config (over s t) (Ok w) = λ found. opened single a.config s a.options found w t (search rules) c.in_ok-open.ensures.opening in
    record { opening = told; same = search rules; flown = opens_flight probe follows a.options a.config s t (Ok w) told; plain = opens_too probe follows a.options a.config s t (Ok w) told }
