-- The probes are those that the scalars hold.
use Rattle.probe_words.specs.Layout.{scalars, probe_in}
use Rattle.two_axis.specs.Axes.{axes}
use Rattle.two_axis_probe.specs.Stepped.{Structs, probes_of}
use Rattle.two_axis_probe.proofs.Flying.{by_axis}
use Rattle.live_pair.proofs.Flying.{same_report}
use Rattle.pair.proofs.identify_live_pair_report.Goals as goal

pub returns-clause-output : goal.returns-clause-output
returns-clause-output c =
    let a = c.args in
    let read : Structs = probes_of (record { first = c.probe.result; second = c.probe-2.result }) in
    let kept : Structs = λ x. probe_in (axes (scalars a.words1.now a.floats1.now) (scalars a.words2.now a.floats2.now) x) in
    same_report read kept _ _ _ _ (by_axis _ c.probe.ensures.probe c.probe-2.ensures.probe) c.report.ensures.output
