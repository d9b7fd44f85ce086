-- Where both end times are ahead both axes run on; else both windows are looked at and both ticks closed, each as the definition does.
use mathlib.Core.Path.{◌∙◌}
use mathlib.Core.Bool.{and-eq-true_iff}
use Rattle.window.specs.Lent.{arrays_in}
use Rattle.two_axis_probe.specs.Stepped.{two_ticked}
use Rattle.two_axis_probe.proofs.Ticking.{wished, leaves, runs_on}
use Rattle.two_axis_probe.proofs.TwoAxisProbe.tick.Goals as goal

pub returns-then-begun1-self-clause-left : goal.returns-then-begun1-self-clause-left
unfolding two_ticked
returns-then-begun1-self-clause-left c =
    let a = c.args in
    let b = c.begin-begun1 in
    let d = c.begin-begun2 in
    let below = (and-eq-true_iff _ _).0 c.if-begun1-self.true in
    let hb = rw c.call.ensures at b.ensures.result in
    let hd = rw c.call-2.ensures at d.ensures.result in
    let kb = rw c.call.ensures at b.ensures.lent in
    let kd = rw c.call-2.ensures at d.ensures.lent in
    record {
      first = c.run_on.ensures ∙ runs_on a.elapsed1 a.self.now.first (arrays_in a.lent1.now) a.call.dt a.call.first b.result (arrays_in b.new.lent) hb kb.contents below.0 _;
      second = c.run_on-then-begun1-self.ensures ∙ runs_on a.elapsed2 a.self.now.second (arrays_in a.lent2.now) a.call.dt a.call.second d.result (arrays_in d.new.lent) hd kd.contents below.1 _;
      lent1 = kb;
      lent2 = kd;
    }

pub returns-clause-left : goal.returns-clause-left
unfolding two_ticked
returns-clause-left c =
    let a = c.args in
    let b = c.begin-begun1 in
    let d = c.begin-begun2 in
    let p = a.self.now in
    let lb = arrays_in a.lent1.now in
    let ld = arrays_in a.lent2.now in
    let mb = arrays_in b.new.lent in
    let md = arrays_in d.new.lent in
    let hb = rw c.call.ensures at b.ensures.result in
    let hd = rw c.call-2.ensures at d.ensures.result in
    let kb = rw c.call.ensures at b.ensures.lent in
    let kd = rw c.call-2.ensures at d.ensures.lent in
    let q1 = c.readings-readings1.ensures in
    let q2 = c.readings-readings2.ensures in
    let due1 = rw (q1.window, q1.rates, q1.moments, q1.held) at (c.due_at-due1.ensures mb.offsets) in
    let due2 = rw (q2.window, q2.rates, q2.moments, q2.held) at (c.due_at-due2.ensures md.offsets) in
    let wish1 = wished a.elapsed1 p.first lb a.call.dt a.call.first b.result mb _ hb kb.contents due1 in
    let wish2 = wished a.elapsed2 p.second ld a.call.dt a.call.second d.result md _ hd kd.contents due2 in
    record {
      first = rw (q1.window, q1.rates, q1.moments) at c.end_tick.ensures ∙ leaves a.elapsed1 p.first lb a.call.dt a.call.first b.result mb _ hb kb.contents due1 _ ∙ rw (c.asks.ensures, wish2);
      second = rw (q2.window, q2.rates, q2.moments) at c.end_tick-2.ensures ∙ leaves a.elapsed2 p.second ld a.call.dt a.call.second d.result md _ hd kd.contents due2 _ ∙ rw (c.asks-2.ensures, wish1);
      lent1 = kb;
      lent2 = kd;
    }
