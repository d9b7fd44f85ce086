-- The probes are read, stepped and kept, as the definition does; and what is flown flies.
use mathlib.Core.Path.{◌≡◌, refl, ap, ◌∙◌}
use Rattle.std.specs.Prelude.{Some, None, Ok, Err}
use Rattle.std.proofs.Common.{rules}
use Rattle.float.specs.Values.{zero32}
use Rattle.account.specs.Probe.{number}
use Rattle.probe_words.specs.Layout.{probe_in}
use Rattle.rules.specs.Numbers.{number_of, numbered, numbers}
use Rattle.two_axis.specs.Axes.{axes}
use Rattle.two_axis_probe.specs.Stepped.{two_call_of, reply_two}
use Rattle.two_axis_probe.proofs.Flying.{by_axis}
use Rattle.live_pair.specs.Pair.{pair_in, scalars_after_two, offset_after_two, offsets_or}
use Rattle.live_pair.proofs.Stepping.{told}
use Rattle.live_pair.proofs.Flying.{flies_on}
use Rattle.live_pair.proofs.LentPair.step.Goals as goal

pub returns-in_err-x-clause-flight : goal.returns-in_err-x-clause-flight
unfolding numbered numbers number reply_two scalars_after_two offset_after_two offsets_or
returns-in_err-x-clause-flight c = λ found.
    let r = c.in_err-x.field-0.0 in
    let is : c.from_residual.result ≡ Err r = search rules in
    rw is
    (told (pair_in c.args.self.now) (two_call_of c.args.call) (record { first = c.probe.result; second = c.probe-2.result }) _ _ _ _ _ (c.probe.ensures.probe ∙ ap probe_in c.read.ensures) (c.probe-2.ensures.probe ∙ ap probe_in c.read-2.ensures) refl refl c.step.ensures.left
    (Err (number_of r)) c.in_err-x.ensures.answer found found (λ x. refl))

pub returns-in_default-clause-flight : goal.returns-in_default-clause-flight
unfolding numbered numbers number reply_two scalars_after_two offset_after_two offsets_or
returns-in_default-clause-flight c = λ found.
    told (pair_in c.args.self.now) (two_call_of c.args.call) (record { first = c.probe.result; second = c.probe-2.result }) _ _ _ _ _ (c.probe.ensures.probe ∙ ap probe_in c.read.ensures) (c.probe-2.ensures.probe ∙ ap probe_in c.read-2.ensures) refl refl c.step.ensures.left
    (Ok None) (rw c.in_default.is at c.in_ok-x.ensures.answer) found (axes zero32 zero32) (by_axis _ refl refl)

pub returns-clause-flight : goal.returns-clause-flight
unfolding numbered numbers number reply_two scalars_after_two offset_after_two offsets_or
returns-clause-flight c = λ found.
    rw (c.write_probe.ensures.scalars.contents, c.write_probe-2.ensures.scalars.contents)
    (told (pair_in c.args.self.now) (two_call_of c.args.call) (record { first = c.probe.result; second = c.probe-2.result }) _ _ _ _ _ (c.probe.ensures.probe ∙ ap probe_in c.read.ensures) (c.probe-2.ensures.probe ∙ ap probe_in c.read-2.ensures) refl refl c.step.ensures.left
    (Ok (Some (c.in-Some.x, c.in-Some.y))) (rw c.in-Some.is at c.in_ok-x.ensures.answer) found (axes c.in-Some.x c.in-Some.y) (λ x. refl))

pub returns-in_err-x-clause-flown : goal.returns-in_err-x-clause-flown
returns-in_err-x-clause-flown c = flies_on _ (two_call_of c.args.call) c.from_residual.result _ (returns-in_err-x-clause-flight c)

pub returns-in_default-clause-flown : goal.returns-in_default-clause-flown
returns-in_default-clause-flown c = flies_on _ (two_call_of c.args.call) (Ok (zero32, zero32)) _ (returns-in_default-clause-flight c)

pub returns-clause-flown : goal.returns-clause-flown
returns-clause-flown c = flies_on _ (two_call_of c.args.call) (Ok (c.in-Some.x, c.in-Some.y)) _ (returns-clause-flight c)
