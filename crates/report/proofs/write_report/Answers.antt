-- The floats, written behind the fields, complete the report's bytes.
use Rattle.std.proofs.Common.{◌≡◌, ◌≤◌, rules, length, arith}
use Rattle.report.proofs.Bytes.{report_written}
use Rattle.report.proofs.write_report.Goals as goal

pub returns : goal.returns
returns c =
    let a = c.args in
    let h : 36 ≤ length a.out.now = omega arith in
    let six : length c.floats.result ≡ 6 = search rules in
    rw (c.write_values-2.ensures.all (omega arith), c.floats.ensures, c.write_values.ensures.all (omega arith), c.third_word.ensures, c.second_word.ensures, c.first_word.ensures) (report_written a.report a.out.now h)
