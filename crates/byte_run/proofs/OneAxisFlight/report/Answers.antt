-- The report of the probe that all calls leave is the account's.
use mathlib.Core.Path.{ap, ◌∙◌}
use Rattle.window.specs.Lent.{arrays_in}
use Rattle.report.specs.Report.{report_bytes}
use Rattle.report.proofs.Bytes.{length_report}
use Rattle.probe_report.proofs.Reported.{reported}
use Rattle.batch.specs.Calls.{calls_of}
use Rattle.batch.proofs.Flying.{at_front}
use Rattle.byte_run.proofs.OneAxisFlight.report.Goals as goal

pub returns : goal.returns
unfolding calls_of
returns c config calls stands =
    let l = arrays_in c.args.self.now.lent in
    let r = c.report_of-report in
    let same = ap report_bytes (r.ensures l.moments l.offsets ∙ reported stands.holds.accounted) in
    c.write_report.ensures ∙ at_front _ c.args.output.now (rw (length_report r.result) c.requires) ∙ rw same
