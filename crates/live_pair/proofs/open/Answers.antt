-- The options are told first, then the rules, and then both axes are written.
use mathlib.Core.Path.{◌≡◌}
use Rattle.std.specs.Prelude.{Ok, Err}
use Rattle.std.proofs.Common.{rules}
use Rattle.account.specs.Rules.{broken}
use Rattle.rules.specs.Numbers.{number_of, numbered, numbers}
use Rattle.probe_words.specs.Layout.{scalars_in}
use Rattle.two_axis.specs.Axes.{axes}
use Rattle.two_axis_probe.specs.Stepped.{two_opened_by}
use Rattle.two_axis_probe.proofs.Flying.{by_axis}
use Rattle.live_pair.proofs.Stepping.{unknown, turned_away, opens}
use Rattle.live_pair.proofs.Flying.{begun}
use Rattle.live_pair.proofs.open.Goals as goal

pub returns-then-options-ne0-clause-opening : goal.returns-then-options-ne0-clause-opening
unfolding numbered number_of
returns-then-options-ne0-clause-opening c =
    let a = c.args in
    unknown a.config (axes (scalars_in a.lent1.now) (scalars_in a.lent2.now)) a.options c.if-options-ne0.true

pub returns-then-options-ne0-clause-flown : goal.returns-then-options-ne0-clause-flown
returns-then-options-ne0-clause-flown c = begun _ _ _ _ _ (returns-then-options-ne0-clause-opening c)

pub returns-in_err-pair-clause-opening : goal.returns-in_err-pair-clause-opening
unfolding numbered numbers
returns-in_err-pair-clause-opening c =
    let a = c.args in
    let r = c.in_err-pair.field-0.0 in
    let is : c.from_residual.result ≡ Err r = search rules in
    let o : two_opened_by (broken a.config) a.config ≡ Err (number_of r) = rw (← c.new.ensures, c.in_err-pair.was) in
    rw is (turned_away a.config (axes (scalars_in a.lent1.now) (scalars_in a.lent2.now)) a.options c.if-options-ne0.false (number_of r) o)

pub returns-in_err-pair-clause-flown : goal.returns-in_err-pair-clause-flown
returns-in_err-pair-clause-flown c = begun _ _ _ _ _ (returns-in_err-pair-clause-opening c)

pub returns-clause-opening : goal.returns-clause-opening
unfolding numbered numbers
returns-clause-opening c =
    let a = c.args in
    let p = c.in_ok-pair.pair in
    let o : two_opened_by (broken a.config) a.config ≡ Ok p = rw (← c.new.ensures, c.in_ok-pair.was) in
    opens a.config (axes (scalars_in a.lent1.now) (scalars_in a.lent2.now)) a.options c.if-options-ne0.false p o _ (by_axis _ c.write_probe.ensures.scalars.contents c.write_probe-2.ensures.scalars.contents)

pub returns-clause-flown : goal.returns-clause-flown
returns-clause-flown c = begun _ _ _ _ _ (returns-clause-opening c)
