-- The reports of the probes that all calls leave are the accounts'.
use mathlib.Core.Path.{◌∙◌}
use Rattle.window.specs.Lent.{arrays_in}
use Rattle.two_axis.specs.Axes.{axes}
use Rattle.two_axis_report.proofs.Bytes.{length_two}
use Rattle.batch.specs.Calls.{calls_of}
use Rattle.batch.proofs.Flying.{at_front}
use Rattle.two_axis_run.proofs.Runs.{reports_are}
use Rattle.two_axis_run.proofs.TwoAxesFlight.report.Goals as goal

pub returns : goal.returns
unfolding calls_of
returns c config calls stands =
    let l1 = arrays_in c.args.self.now.lent1 in
    let l2 = arrays_in c.args.self.now.lent2 in
    let r = c.report_of-first in
    let s = c.report_of-second in
    let same = reports_are stands.holds (r.ensures l1.moments l1.offsets) (s.ensures l2.moments l2.offsets) in
    c.write_two.ensures ∙ at_front _ c.args.output.now (rw (length_two (axes r.result s.result)) c.requires) ∙ rw same
