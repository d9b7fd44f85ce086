-- A value more is one more of the list; a place past the largest number is past the end, as the largest is.
use Rattle.std.proofs.Common.{◌∙◌, sym, arith}
use Rattle.wire.proofs.Written.{value_next, values_each, values_fit}
use Rattle.wire.proofs.write_values.Goals as goal

pub loop-k-preserved : goal.loop-k-preserved
loop-k-preserved g c =
    rw (c.write.ensures) (value_next g.V.Word.word c.args.values.now c.args.at c.args.out.now 18446744073709551615 c.loop-k.k _ c.index-values-k.result c.loop-k.out (omega arith) (omega arith) (omega arith) (sym c.index-values-k.is) c.loop-k.invariant)

pub returns : goal.returns
returns g c =
    let a = c.args in
    let each = values_each g.V.Word.word a.values.now a.at a.out.now c.loop-k.k c.loop-k.out (omega arith) c.loop-k.invariant in
    record { each = each; all = λ h. each ∙ values_fit g.V.Word.word a.values.now a.at a.out.now h }
