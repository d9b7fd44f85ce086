-- The report of two axes, 77 bytes: 02, request five, "Roll and pitch in one flight".
use Rattle.std.specs.Prelude.{ℕ, ◌+◌, ◌*◌, ◌/◌, ◌%◌, ◌^◌, ◌≡◌, List, [], ◌∷◌, ◌++◌, get_or, drop}
use Rattle.wire.specs.Words.{bytes_of, word_at}
use Rattle.report.specs.declared.Report.{Report}
use Rattle.report.specs.Report.{Field, bits, packed, report_bytes}
use Rattle.probe_report.specs.ProbeReport.{of_account}
use Rattle.two_axis.specs.Axes.{Axis, first, second, axes}
use Rattle.two_axis.specs.Accounts.{Accounts}

-- "ticks + ticks and rows + rows as 26 and 13 bits and a zero bit"
unfoldable pub sums_of : (Axis → Report) → List Field
sums_of r = bits 26 ((r first).ticks + (r second).ticks) ∷ bits 13 ((r first).rows + (r second).rows) ∷ bits 1 0 ∷ []

-- "The report is the two reports one after the other, then" the sums
unfoldable pub report_two : (Axis → Report) → List ℕ
report_two r = report_bytes (r first) ++ (report_bytes (r second) ++ bytes_of 5 (packed 0 (sums_of r)))

-- the reports that two accounts ask for
abbrev pub reports_of : Accounts → Axis → Report
reports_of a x = of_account (a x)

-- where a reader finds an axis's own report
abbrev pub report_at : Axis → List ℕ → List ℕ
report_at x bytes = drop (axes 0 36 x) bytes

-- what a reader finds in the 26 bits, and in the 13
unfoldable pub ticks_read : List ℕ → ℕ
ticks_read bytes = word_at bytes 72 / 2 ^ 6

unfoldable pub rows_read : List ℕ → ℕ
rows_read bytes = word_at bytes 72 % 2 ^ 6 * 2 ^ 7 + get_or bytes 76 0 / 2

-- both are the sums of two reports, none of them cut
abbrev pub TellsSums : List ℕ → (Axis → Report) → Type 0
TellsSums bytes r = (ticks_read bytes ≡ (r first).ticks + (r second).ticks) × (rows_read bytes ≡ (r first).rows + (r second).rows)
