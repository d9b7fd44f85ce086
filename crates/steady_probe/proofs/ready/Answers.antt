-- Before a call that 10 turns back nothing is written, and before any other what the plain call writes.
use mathlib.Core.Path.{sym, ap, ◌∙◌}
use Rattle.std.proofs.Common.{rules}
use Rattle.account.specs.declared.IdentifyStatus.{IdentifyStatus}
use Rattle.account.specs.Probe.{clock}
use Rattle.probe_words.specs.Layout.{read_in, probe_in}
use Rattle.steady.specs.Steady.{is_running}
use Rattle.live_probe.specs.Live.{readied}
use Rattle.steady_probe.specs.SteadyLive.{runs_in}
use Rattle.steady_probe.proofs.Behind.{left_alone, readies, readies_plain}
use Rattle.steady_probe.proofs.ready.Goals as goal

pub returns-then-turns_back : goal.returns-then-turns_back
returns-then-turns_back c =
    let a = c.args in
    let p = probe_in (read_in a.scalars) in
    let running = c.is_running.ensures ∙ ap (λ (s : IdentifyStatus). is_running (clock s)) c.status.ensures.probe in
    let plain = readied p a.dt a.marks.now in
    let alone = left_alone a.clock (runs_in p) a.dt plain a.marks.now (rw (← running) (sym c.turns_back.ensures ∙ c.if-turns_back.true)) in
    record { bytes = alone; marks = search rules; plain = λ h. alone ∙ readies_plain a.clock (runs_in p) a.dt plain a.marks.now h }

pub returns-clause-bytes : goal.returns-clause-bytes
returns-clause-bytes c =
    let a = c.args in
    let p = probe_in (read_in a.scalars) in
    let running = c.is_running.ensures ∙ ap (λ (s : IdentifyStatus). is_running (clock s)) c.status.ensures.probe in
    c.ready.ensures.bytes ∙ readies a.clock (runs_in p) a.dt (readied p a.dt a.marks.now) a.marks.now (rw (← running) (sym c.turns_back.ensures ∙ c.if-turns_back.false))
