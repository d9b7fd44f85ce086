-- Before a call that 10 turns back nothing is written, and before any other what the plain call writes.
use mathlib.Core.Path.{◌≡◌, sym, ap, ap₂, ◌∙◌}
use Rattle.std.specs.Prelude.{Bool, true, false, ◌&&◌}
use Rattle.std.proofs.Common.{rules}
use Rattle.account.specs.declared.IdentifyStatus.{IdentifyStatus}
use Rattle.account.specs.Probe.{clock}
use Rattle.probe_words.specs.Layout.{Scalars, read_in}
use Rattle.steady.specs.Band.{turns_back}
use Rattle.steady.specs.Kept.{clock_band}
use Rattle.steady.specs.Steady.{is_running}
use Rattle.two_axis.specs.Axes.{Axis, first, second, axes}
use Rattle.live_pair.specs.Pair.{pair_readied}
use Rattle.steady_pair.specs.SteadyPair.{both_run}
use Rattle.steady_probe.proofs.Behind.{left_alone, readies, readies_plain}
use Rattle.steady_pair.proofs.ready.Goals as goal

pub returns-then-turns_back : goal.returns-then-turns_back
returns-then-turns_back c =
    let a = c.args in
    let s : Axis → Scalars = axes (read_in a.scalars1) (read_in a.scalars2) in
    let running : c.is_running-running1.result && c.is_running-running2.result ≡ both_run s = ap₂ (λ (r t : Bool). r && t)
    (c.is_running-running1.ensures ∙ ap (λ (t : IdentifyStatus). is_running (clock t)) c.status.ensures.probe)
    (c.is_running-running2.ensures ∙ ap (λ (t : IdentifyStatus). is_running (clock t)) c.status-2.ensures.probe) in
    let back : turns_back (clock_band a.clock) (both_run s) a.dt ≡ true = rw (← running) (sym c.turns_back.ensures ∙ c.if-turns_back.true) in
    let plain1 = pair_readied s first a.dt a.marks1.now in
    let plain2 = pair_readied s second a.dt a.marks2.now in
    let alone1 = left_alone a.clock (both_run s) a.dt plain1 a.marks1.now back in
    let alone2 = left_alone a.clock (both_run s) a.dt plain2 a.marks2.now back in
    record {
      bytes1 = alone1;
      bytes2 = alone2;
      marks1 = search rules;
      marks2 = search rules;
      plain1 = λ h. alone1 ∙ readies_plain a.clock (both_run s) a.dt plain1 a.marks1.now h;
      plain2 = λ h. alone2 ∙ readies_plain a.clock (both_run s) a.dt plain2 a.marks2.now h;
    }

pub returns : goal.returns
returns c =
    let a = c.args in
    let s : Axis → Scalars = axes (read_in a.scalars1) (read_in a.scalars2) in
    let running : c.is_running-running1.result && c.is_running-running2.result ≡ both_run s = ap₂ (λ (r t : Bool). r && t)
    (c.is_running-running1.ensures ∙ ap (λ (t : IdentifyStatus). is_running (clock t)) c.status.ensures.probe)
    (c.is_running-running2.ensures ∙ ap (λ (t : IdentifyStatus). is_running (clock t)) c.status-2.ensures.probe) in
    let on : turns_back (clock_band a.clock) (both_run s) a.dt ≡ false = rw (← running) (sym c.turns_back.ensures ∙ c.if-turns_back.false) in
    let e = c.ready.ensures in
    record {
      bytes1 = e.bytes1 ∙ readies a.clock (both_run s) a.dt (pair_readied s first a.dt a.marks1.now) a.marks1.now on;
      bytes2 = e.bytes2 ∙ readies a.clock (both_run s) a.dt (pair_readied s second a.dt a.marks2.now) a.marks2.now on;
      marks1 = e.marks1;
      marks2 = e.marks2;
      plain1 = λ h. e.bytes1;
      plain2 = λ h. e.bytes2;
    }
