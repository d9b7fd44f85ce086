-- The option is told first, then what the plain opening answers; where it opens the clock is answered.
use mathlib.Core.Path.{◌≡◌}
use Rattle.std.specs.Prelude.{Err, Ok}
use Rattle.std.proofs.Common.{rules}
use Rattle.rules.specs.Numbers.{numbered}
use Rattle.probe_words.specs.Layout.{Scalars, scalars_in}
use Rattle.two_axis.specs.Axes.{Axis, axes}
use Rattle.live_probe.specs.Live.{over, value_or}
use Rattle.steady_probe.specs.Behind.{AnswersOpening}
use Rattle.steady_pair.specs.SteadyPair.{double}
use Rattle.steady_probe.proofs.Behind.{unknown, turned_away, opened}
use Rattle.steady_probe.proofs.Flying.{opens_flight, opens_too}
use Rattle.steady_pair.proofs.SteadyPairFlying.{pair, follows}
use Rattle.steady_pair.proofs.open.Goals as goal

pub returns-in_err-clock : goal.returns-in_err-clock
unfolding numbered value_or
returns-in_err-clock c =
    let a = c.args in
    let s : Axis → Scalars = axes (scalars_in a.lent1.now) (scalars_in a.lent2.now) in
    let r = c.in_err-clock.field-0.0 in
    let is : c.from_residual.result ≡ Err r = search rules in
    let told : AnswersOpening double a.options a.config (over s s) (Err r) = λ found. unknown double a.config s a.options found r (search rules) in
    rw is (record { opening = told; same1 = search rules; same2 = search rules; flown = opens_flight pair follows a.options a.config s s (Err r) told; plain = opens_too pair follows a.options a.config s s (Err r) told })

pub returns-in_err-open : goal.returns-in_err-open
unfolding numbered value_or
returns-in_err-open c =
    let a = c.args in
    let s : Axis → Scalars = axes (scalars_in a.lent1.now) (scalars_in a.lent2.now) in
    let t : Axis → Scalars = axes (scalars_in c.open.new.lent1) (scalars_in c.open.new.lent2) in
    let r = c.in_err-open.field-0.0 in
    let is : c.from_residual-in_err-open.result ≡ Err r = search rules in
    let told : AnswersOpening double a.options a.config (over s t) (Err r) = λ found. turned_away double a.config s a.options found c.in_ok-clock.clock r t (search rules) c.in_err-open.ensures.opening in
    rw is (record { opening = told; same1 = search rules; same2 = search rules; flown = opens_flight pair follows a.options a.config s t (Err r) told; plain = opens_too pair follows a.options a.config s t (Err r) told })

pub returns : goal.returns
unfolding numbered value_or
returns c =
    let a = c.args in
    let s : Axis → Scalars = axes (scalars_in a.lent1.now) (scalars_in a.lent2.now) in
    let t : Axis → Scalars = axes (scalars_in c.open.new.lent1) (scalars_in c.open.new.lent2) in
    let w = c.in_ok-clock.clock in
    let told : AnswersOpening double a.options a.config (over s t) (Ok w) = λ found. opened double a.config s a.options found w t (search rules) c.in_ok-open.ensures.opening in
    record { opening = told; same1 = search rules; same2 = search rules; flown = opens_flight pair follows a.options a.config s t (Ok w) told; plain = opens_too pair follows a.options a.config s t (Ok w) told }
