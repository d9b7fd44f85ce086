-- The options are told first, and then what the configuration opens.
use mathlib.Core.Path.{◌≡◌, ap, ◌∙◌}
use Rattle.std.specs.Prelude.{Ok}
use Rattle.std.proofs.Common.{rules}
use Rattle.rules.proofs.Numbers.{above_0}
use Rattle.account.specs.Rules.{broken}
use Rattle.rules.specs.Numbers.{number_of, numbered, numbers}
use Rattle.identify.specs.Seen.{opened_by}
use Rattle.probe_words.specs.Layout.{scalars_in}
use Rattle.live_probe.specs.Live.{opening, open_by, live_open}
use Rattle.live_probe.proofs.Opening.{unknown, opens}
use Rattle.live_probe.proofs.Flying.{begun}
use Rattle.live_probe.proofs.open.Goals as goal

pub returns-then-options-ne0-clause-opening : goal.returns-then-options-ne0-clause-opening
unfolding numbered number_of
returns-then-options-ne0-clause-opening c = unknown c.args.config (scalars_in c.args.lent.now) c.args.options c.if-options-ne0.true

pub returns-then-options-ne0-clause-flown : goal.returns-then-options-ne0-clause-flown
returns-then-options-ne0-clause-flown c =
    let s = scalars_in c.args.lent.now in
    begun c.args.options c.args.config s s _ (returns-then-options-ne0-clause-opening c)

pub returns-in_err-probe-clause-opening : goal.returns-in_err-probe-clause-opening
unfolding numbered numbers live_open open_by opened_by
returns-in_err-probe-clause-opening c = search (rules, above_0)

pub returns-in_err-probe-clause-flown : goal.returns-in_err-probe-clause-flown
returns-in_err-probe-clause-flown c =
    let s = scalars_in c.args.lent.now in
    begun c.args.options c.args.config s s _ (returns-in_err-probe-clause-opening c)

pub returns-clause-opening : goal.returns-clause-opening
unfolding numbered numbers
returns-clause-opening c =
    let a = c.args in
    let o : opened_by (broken a.config) a.config ≡ Ok c.in_ok-probe.probe = rw (← c.new.ensures, c.in_ok-probe.was) in
    ap (opening 0) c.write_probe.ensures.scalars.contents ∙ opens a.config (scalars_in a.lent.now) a.options c.if-options-ne0.false c.in_ok-probe.probe o

pub returns-clause-flown : goal.returns-clause-flown
returns-clause-flown c = begun c.args.options c.args.config (scalars_in c.args.lent.now) _ _ (returns-clause-opening c)
