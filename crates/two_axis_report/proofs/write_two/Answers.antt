-- The second report, written to its part behind the first, and the sums behind both complete the bytes of two axes.
use Rattle.std.proofs.Common.{◌≡◌, ◌≤◌, ◌∙◌, length, arith}
use Rattle.wire.specs.Words.{bytes_of, written_within}
use Rattle.wire.proofs.Bytes.{length_bytes}
use Rattle.wire.proofs.Written.{copied, length_within}
use Rattle.report.specs.Report.{packed, report_bytes}
use Rattle.report.proofs.Bytes.{length_report}
use Rattle.two_axis.specs.Axes.{axes}
use Rattle.two_axis_report.specs.TwoReport.{sums_of}
use Rattle.two_axis_report.proofs.Bytes.{five_bytes, in_part, two_written}
use Rattle.two_axis_report.proofs.write_two.Goals as goal

pub returns : goal.returns
returns c =
    let a = c.args in
    let r = axes a.first a.second in
    let n = packed 0 (sums_of r) in
    let h : 77 ≤ length a.output.now = omega arith in
    let long = length_within 0 (report_bytes a.first) a.output.now in
    let sums : c.copy_from_slice.new.self ≡ bytes_of 5 n = c.copy_from_slice.ensures.after ∙ rw (c.to_be_bytes.ensures, c.sums.ensures) (five_bytes n) in
    rw (sums, copied 72 5 (bytes_of 5 n) _ (length_bytes 5 n), c.write_report-2.ensures, c.write_report.ensures, in_part 36 36 (report_bytes a.second) (written_within 0 (report_bytes a.first) a.output.now) (length_report a.second) (rw long (omega arith)))
    (two_written r a.output.now h)
