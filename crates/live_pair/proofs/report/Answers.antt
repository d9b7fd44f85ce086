-- The report of both probes is written; of what is flown it is the accounts'.
use mathlib.Core.Path.{sym, ap, fun_ext, ◌∙◌}
use mathlib.Core.List.{List}
use Prim.Native.Nat.{ℕ}
use lib.Ieee.{Float}
use Rattle.std.proofs.Common.{rules}
use Rattle.window.specs.Lent.{lent}
use Rattle.wire.specs.Words.{written_within}
use Rattle.identify.specs.Seen.{seen}
use Rattle.probe_report.specs.ProbeReport.{of_probe}
use Rattle.marks.specs.Marks.{marks_by}
use Rattle.two_axis.specs.Axes.{Axis, axes}
use Rattle.two_axis_probe.specs.Stepped.{Structs}
use Rattle.two_axis_report.specs.TwoReport.{report_two}
use Rattle.live_pair.proofs.Flying.{reports}
use Rattle.live_pair.proofs.report.Goals as goal

pub returns-clause-output : goal.returns-clause-output
returns-clause-output c = search rules

pub returns-clause-flown : goal.returns-clause-flown
returns-clause-flown c = λ s is g calls answers l f er em.
    let rates : Axis → List Float = axes c.args.rates1.now c.args.rates2.now in
    let marks : Axis → List ℕ = axes c.args.marks1.now c.args.marks2.now in
    returns-clause-output c (λ x. (l x).moments) (λ x. (l x).offsets)
    ∙ ap (λ (p : Structs). written_within 0 (report_two (λ x. of_probe (seen (p x) (lent (rates x) (l x).moments (l x).offsets (marks_by (marks x)))))) c.args.output.now) (sym (fun_ext is))
    ∙ ap (λ (bytes : List ℕ). written_within 0 bytes c.args.output.now) (reports s l rates marks f er em)
