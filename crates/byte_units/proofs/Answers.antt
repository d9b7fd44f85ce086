-- What `byte_units` answers, by its sizes.
use Prim.Native.Nat.{ℕ, ◌*◌}
use mathlib.Core.Path.{◌≡◌, refl, sym, ap, ◌∙◌}
use mathlib.Core.Bool.{true, false, true≢false}
use mathlib.Core.List.{List}
use Rattle.std.proofs.lemmas.Bool.{and_parts}
use borrow.Author.Tests.{eqb-true, eq-eqb}
use lib.Dec.{eqb}
use lib.ListN.{length}
use Rattle.wire.specs.Words.{word_bytes, written_at}
use Rattle.wire.proofs.Bytes.{length_words}
use Rattle.wire.proofs.Written.{whole_written}
use Rattle.report.specs.declared.Report.{Report}
use Rattle.report.specs.Report.{report_bytes}
use Rattle.report.proofs.Bytes.{length_report}
use Rattle.std.specs.Prelude.{Option, Some, None}
use Rattle.units.specs.declared.Plain.{Plain}
use Rattle.byte_units.specs.ByteUnits.{sized, unit_words}

three : (u : Option Plain) → length (unit_words u) ≡ 3
unfolding unit_words
three None = refl
three (Some p) = refl

module _ (report output : List ℕ) where
  pub output_size : sized report output ≡ true → length output ≡ 12
  unfolding sized
  output_size h = eqb-true (length output) 12 (and_parts (eqb (length report) 36) _ h).1

  pub units_written : (u : Option Plain) → sized report output ≡ true → written_at 0 (word_bytes (unit_words u)) output ≡ word_bytes (unit_words u)
  units_written u h = whole_written (word_bytes (unit_words u)) output (output_size h ∙ sym (length_words (unit_words u) ∙ ap (λ (n : ℕ). 4 * n) (three u)))

  -- a report has 36 bytes
  pub not_a_report : sized report output ≡ false → (r : Report) → report ≡ report_bytes r → length output ≡ 12 → ⊥
  unfolding sized
  not_a_report h r e n =
      let good : sized report output ≡ true = rw (eq-eqb (length report) 36 (ap length e ∙ length_report r), eq-eqb (length output) 12 n) in
      true≢false (sym good ∙ h)
