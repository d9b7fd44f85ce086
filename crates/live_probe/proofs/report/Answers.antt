-- The report of the probe is written; of what is flown it is the account's.
use Rattle.live_probe.proofs.Flying.{reports}
use Rattle.live_probe.proofs.report.Goals as goal

pub returns-clause-flown : goal.returns-clause-flown
returns-clause-flown c = λ s is g calls answers l f er em.
    rw (← reports s l c.args.rates.now c.args.marks.now f er em, is, ← c.held_by-held.ensures, ← c.report_of.ensures l.moments l.offsets) c.write_report.ensures
