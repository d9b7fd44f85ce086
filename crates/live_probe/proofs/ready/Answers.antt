-- The test decides whether the bytes are settled.
use mathlib.Core.Path.{sym, ◌∙◌}
use Rattle.probe_words.specs.Layout.{read_in, probe_in}
use Rattle.live_probe.proofs.Marks.{readies, reads, reads_none}
use Rattle.live_probe.proofs.ready.Goals as goal

pub returns-then-reads_marks : goal.returns-then-reads_marks
returns-then-reads_marks c =
    let a = c.args in
    let p = probe_in (read_in a.scalars) in
    let r = readies p a.dt a.marks.now _ (c.settle.ensures ∙ reads p a.dt (sym c.reads_marks.ensures ∙ c.if-reads_marks.true) a.marks.now) in
    record { bytes = r.0; marks = r.1 }

pub returns-else-reads_marks : goal.returns-else-reads_marks
returns-else-reads_marks c =
    let a = c.args in
    let p = probe_in (read_in a.scalars) in
    let r = readies p a.dt a.marks.now _ (reads_none p a.dt (sym c.reads_marks.ensures ∙ c.if-reads_marks.false) a.marks.now) in
    record { bytes = r.0; marks = r.1 }
