-- The bytes of a report of two axes: 77 of them, written one part behind another. A sum that fits its bits is what a reader finds in them.
use Prim.Native.Nat.{ℕ, ◌+◌, ◌-◌, ◌*◌, ◌/◌, ◌%◌, ◌^◌, ◌≤◌, ◌<◌}
use mathlib.Core.Path.{◌≡◌, ap, ◌∙◌}
use mathlib.Core.List.{List, [], ◌∷◌, ◌++◌, append_assoc}
use native.Mathlib.Nat.{div-one}
use native.Mathlib.Omega.{arith}
use borrow.Rule.Slice.PartMut.{mid_of, put_mid, mid_len}
use lib.Dec.{lit<}
use lib.ListN.{length, get_or, drop, length-append}
use lib.Seq.{get_or-append-add}
use Rattle.wire.specs.Words.{bytes_of, word_at, written_at, written_within}
use Rattle.wire.proofs.Bytes.{length_bytes, one_word, bytes_split}
use Rattle.std.specs.Int.{w64, to_be_bytes}
use Rattle.wire.proofs.Written.{copied, whole_written, within, written_next}
use Rattle.wire.proofs.Read.{word_read_before}
use Rattle.report.specs.declared.Report.{Report}
use Rattle.report.specs.Report.{packed, report_bytes}
use Rattle.report.proofs.Bytes.{length_report}
use Rattle.two_axis.specs.Axes.{Axis, first, second}
use Rattle.two_axis_report.specs.TwoReport.{sums_of, report_two, ticks_read, rows_read, TellsSums}

pub length_two : (r : Axis → Report) → length (report_two r) ≡ 77
unfolding report_two
length_two r = rw (length-append, length-append, length_report (r first), length_report (r second), length_bytes)

-- ---- the sums
-- the word of ticks and the upper bits of rows, and the byte of the lower ones
module _ (r : Axis → Report) where
  abbrev pub ticks : ℕ
  ticks = ((r first).ticks + (r second).ticks) % 2 ^ 26

  abbrev pub rows : ℕ
  rows = ((r first).rows + (r second).rows) % 2 ^ 13

  pub upper : packed 0 (sums_of r) / 256 ^ 1 ≡ ticks * 2 ^ 6 + rows / 2 ^ 7
  unfolding packed sums_of
  upper = omega arith

  pub lower : packed 0 (sums_of r) % 256 ≡ rows % 2 ^ 7 * 2
  unfolding packed sums_of
  lower = omega arith

-- the low five of a number's eight bytes
pub five_bytes : (n : ℕ) → drop 3 (to_be_bytes w64 n) ≡ bytes_of 5 n
unfolding bytes_of
five_bytes n = rw div-one

-- ---- parts
-- bytes written to a part that is as long as they are stand in its place
pub in_part : (at n : ℕ) (bytes l : List ℕ) → length bytes ≡ n → at + n ≤ length l
    → put_mid at ((at + n) - at) l (written_within 0 bytes (mid_of at ((at + n) - at) l)) ≡ written_at at bytes l
in_part at n bytes l e h =
    let k = (at + n) - at in
    let m = mid_of at k l in
    let long : length m ≡ n = mid_len at (at + n) l h ∙ omega arith in
    rw (within 0 bytes m (omega arith), whole_written bytes m (omega arith)) (copied at k bytes l (omega arith))

-- two reports and the sums, written one behind another
pub two_written : (r : Axis → Report) (l : List ℕ) → 77 ≤ length l
    → written_at 72 (bytes_of 5 (packed 0 (sums_of r))) (written_at 36 (report_bytes (r second)) (written_within 0 (report_bytes (r first)) l)) ≡ written_within 0 (report_two r) l
unfolding report_two
two_written r l h =
    let one = report_bytes (r first) in
    let two = report_bytes (r second) in
    let sums = bytes_of 5 (packed 0 (sums_of r)) in
    let e : length one ≡ 36 = length_report (r first) in
    let f : length two ≡ 36 = length_report (r second) in
    let both : length (one ++ two) ≡ 72 = rw (length-append, e, f) in
    rw (within 0 (report_two r) l (rw (length_two r) h), within 0 one l (rw e (omega arith)), ← append_assoc one two sums)
    (ap (written_at 72 sums) (rw e at (written_next 0 one two l (omega arith))) ∙ rw both at (written_next 0 (one ++ two) sums l (rw both (omega arith))))

-- ---- what a reader finds
-- a byte behind n others
behind : (p q : List ℕ) (n k : ℕ) → length p ≡ n → get_or (p ++ q) (n + k) 0 ≡ get_or q k 0
behind p q n k e = rw (← e) (get_or-append-add p q k 0)

-- the word and the byte of the sums
module _ (r : Axis → Report) (more : List ℕ) where
  abbrev n : ℕ
  n = packed 0 (sums_of r)

  abbrev front : List ℕ
  front = report_bytes (r first) ++ report_bytes (r second)

  abbrev rest : List ℕ
  rest = bytes_of 4 (n / 256 ^ 1) ++ (bytes_of 1 n ++ more)

  front_long : length front ≡ 72
  front_long = rw (length-append, length_report (r first), length_report (r second))

  parts : report_two r ++ more ≡ front ++ rest
  unfolding report_two
  parts = rw (bytes_split 4 1 n) (simp append_assoc)

  word_told : word_at (report_two r ++ more) 72 ≡ n / 256 ^ 1
  word_told =
      let found : word_at (front ++ rest) 72 ≡ word_at rest 0 = unfold word_at in rw (behind front rest 72 0 front_long, behind front rest 72 1 front_long, behind front rest 72 2 front_long, behind front rest 72 3 front_long) in
      ap (λ (l : List ℕ). word_at l 72) parts ∙ found ∙ rw (← one_word (n / 256 ^ 1)) (word_read_before (n / 256 ^ 1 ∷ []) (bytes_of 1 n ++ more) 0 (lit< tt) (rw (upper r) (omega arith)))

  byte_told : get_or (report_two r ++ more) 76 0 ≡ n % 256
  unfolding bytes_of
  byte_told = ap (λ (l : List ℕ). get_or l 76 0) parts ∙ behind front rest 72 4 front_long ∙ rw div-one

pub sums_told : (r : Axis → Report) (more : List ℕ) → (r first).ticks + (r second).ticks < 2 ^ 26 → (r first).rows + (r second).rows < 2 ^ 13 → TellsSums (report_two r ++ more) r
unfolding ticks_read rows_read
sums_told r more t w =
    let n = packed 0 (sums_of r) in
    let word = word_told r more in
    let last = byte_told r more in
    (rw (word, upper r) (omega arith), rw (word, last, upper r, lower r) (omega arith))
