-- The units are written over the whole output. Those of a report's bytes are those of the status that it tells of: `reported`.
use Rattle.std.proofs.Common.{◌≡◌, ◌∙◌, sym, arith}
use Rattle.wire.specs.Words.{word_bytes}
use Rattle.byte_units.specs.ByteUnits.{report_units, unit_words, units_if, byte_units}
use Rattle.rules.specs.Numbers.{numbered}
use Rattle.byte_units.proofs.Reported.{reported}
use Rattle.byte_units.proofs.Answers.{output_size, units_written}
use Rattle.byte_units.proofs.byte_units.Goals as goal

pub write_units-requires : goal.write_units-requires
write_units-requires c = omega (arith, output_size c.args.report.now c.args.output.now (sym c.is_sized.ensures ∙ c.if-not-is_sized.false))

pub returns : goal.returns
unfolding byte_units units_if numbered
returns c =
    let a = c.args in
    let good = sym c.is_sized.ensures ∙ c.if-not-is_sized.false in
    let left : c.write_units.new.output ≡ word_bytes (unit_words (report_units a.report.now)) =
    c.write_units.ensures ∙ rw c.units_of.ensures (units_written a.report.now a.output.now (report_units a.report.now) good) in
    record { result = rw good; output = rw good left; reported = λ p f e n. left ∙ rw (e, reported p f) }
