-- Call by call the flight goes on and one answer more is behind those before it; at the end the report comes in front.
use Prim.Native.Nat.{◌+◌, ◌*◌, ◌/◌, ◌≤◌}
use mathlib.Core.Path.{◌≡◌, sym, ap, ◌∙◌}
use native.Mathlib.Nat.{mul-zero}
use native.Mathlib.Numerals.{add-one}
use native.Mathlib.Omega.{arith}
use lib.ListN.{length}
use Rattle.wire.proofs.Written.{nothing_written}
use Rattle.batch.specs.Batch.{onto}
use Rattle.batch.proofs.Sizing.{calls_fit}
use Rattle.batch.proofs.Flying.{room, report_before}
use Rattle.batch.proofs.fly.Goals as goal

pub loop-k-init : goal.loop-k-init
loop-k-init g c = (omega arith, λ config stands. let none = g.met.F.Flight.unanswered config c.args.calls.now in (stands, rw (none, mul-zero), rw none (sym (nothing_written _ c.args.output.now))))

pub fly_call-requires : goal.fly_call-requires
fly_call-requires g c =
    let s = c.args.sizes in
    let k = c.loop-k.k in
    record {
      sizes = c.requires.sizes;
      call = calls_fit s.call (length c.args.calls.now) k c.loop-k-test.true;
      answer = rw c.loop-k.auto.output (room s.report s.answer _ k _ c.loop-k-test.true c.requires.output);
    }

pub loop-k-preserved : goal.loop-k-preserved
loop-k-preserved g c =
    let s = c.args.sizes in
    let k = c.loop-k.k in
    let more = c.loop-k-test.true in
    let fits : s.report + s.answer * k ≤ length c.args.output.now = omega (arith, room s.report s.answer _ k _ more c.requires.output) in (
      omega (arith, more),
      λ config stands. let i = c.loop-k.invariant.1 config stands in rw add-one (c.fly_call.ensures config c.args.output.now fits i.0 i.1 i.2),
    )

pub report-requires : goal.report-requires
report-requires g c = rw (← c.requires.sizes) (omega (arith, c.requires.output))

pub returns-clause-stands : goal.returns-clause-stands
returns-clause-stands g c config stands =
    let last : c.loop-k.k ≡ length c.args.calls.now / c.args.sizes.call = omega arith in
    rw (← last) (c.loop-k.invariant.1 config stands).0

pub returns-clause-output : goal.returns-clause-output
returns-clause-output g c config stands =
    let a = c.args in
    let s = a.sizes in
    let f = g.F.Flight in
    let n = length a.calls.now / s.call in
    let last : c.loop-k.k ≡ n = omega arith in
    let i = rw last at (c.loop-k.invariant.1 config stands) in
    let reports = rw (← c.requires.sizes) at c.report.ensures in
    let size = rw (← c.requires.sizes) at (g.met.F.Flight.report_size config a.calls.now) in
    reports config a.calls.now i.0
    ∙ ap (onto (f.reported config a.calls.now)) i.2
    ∙ report_before s.report (f.reported config a.calls.now) (f.answers config a.calls.now n) a.output.now size (rw i.1 c.requires.output)
