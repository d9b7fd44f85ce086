-- The test is that of `max_zero`, in the words of IEEE 754, and the default is +0.
use Rattle.std.proofs.Common.{◌≡◌, sym, ◌∙◌}
use lib.Ieee.{of_bits, lt}
use Rattle.float.proofs.Values.{above_zero}
use Rattle.float.proofs.max_zero.Goals as goal

pub returns-then-lt : goal.returns-then-lt
returns-then-lt g c =
    let f = g.F.Width in
    let w = g.met.F.Width in
    let test : lt (of_bits f.format 0) (f.value c.args.v) ≡ c.lt.result = rw (← w.zero c.default-zero.result c.default-zero.ensures, ← w.less c.default-zero.result c.args.v) (sym c.lt.ensures) in
    sym (above_zero f.format (f.value c.args.v) (test ∙ c.if-lt.true))

pub returns-else-lt : goal.returns-else-lt
returns-else-lt g c =
    let f = g.F.Width in
    let w = g.met.F.Width in
    let zero = w.zero c.default-zero.result c.default-zero.ensures in
    let test : lt (of_bits f.format 0) (f.value c.args.v) ≡ c.lt.result = rw (← zero, ← w.less c.default-zero.result c.args.v) (sym c.lt.ensures) in
    zero ∙ sym (above_zero f.format (f.value c.args.v) (test ∙ c.if-lt.false))
