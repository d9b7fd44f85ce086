-- The units of a report's bytes are those of the status that it tells of.
use Prim.Native.Nat.{ℕ, ◌/◌, ◌%◌, ◌^◌, ◌<◌}
use mathlib.Core.Path.{◌≡◌, refl, ap, ◌∙◌}
use mathlib.Core.Bool.{false}
use mathlib.Core.List.{List, ◌∷◌, map}
use native.Mathlib.Nat.{zero-lt-suc}
use lib.Dec.{eqb, lit<}
use lib.ListN.{length}
use Rattle.wire.specs.Words.{word_bytes, word_of}
use Rattle.wire.proofs.Read.{word_read, float_read}
use Rattle.account.specs.declared.IdentifyStatus.{IdentifyStatus}
use Rattle.account.specs.declared.IdentifyStatus.TheVariants.{Running, Done, Unexcited, Saturated}
use Rattle.delay.specs.declared.RateModel.{RateModel}
use Rattle.report.specs.declared.Report.{Report}
use Rattle.report.specs.Report.{kind_of, floats_of, fields_of, packed, report_bytes}
use Rattle.report.proofs.Bytes.{first_small, kind_first, report_words}
use Rattle.std.specs.Prelude.{None}
use Rattle.units.specs.Units.{units_of}
use Rattle.byte_units.specs.ByteUnits.{is_done, report_units, status_units, FloatsFit}

-- a first word whose kind is not 1
not_done : (ws : List ℕ) (a n : ℕ) → a < 2 ^ 32 → a / 2 ^ 30 ≡ n → eqb n 1 ≡ false → report_units (word_bytes (a ∷ ws)) ≡ None
unfolding report_units is_done
not_done ws a n h k e = rw (word_read (a ∷ ws) 0 (zero-lt-suc (length ws)) h, k, e)

-- a first word whose kind is 1
of_done : (m : RateModel) (a b c : ℕ) → a < 2 ^ 32 → a / 2 ^ 30 ≡ 1 → FloatsFit (Done m) → report_units (word_bytes (a ∷ b ∷ c ∷ map word_of (floats_of (Done m)))) ≡ units_of m
unfolding report_units is_done units_of floats_of
of_done m a b c h k f =
    let ws = a ∷ b ∷ c ∷ map word_of (floats_of (Done m)) in
    rw (
      word_read ws 0 (lit< tt) h,
      k,
      float_read ws 4 m.r2 f.0 (lit< tt) refl,
      float_read ws 5 m.m0 f.1 (lit< tt) refl,
      float_read ws 6 m.m1 f.2 (lit< tt) refl,
      float_read ws 7 m.m2 f.3 (lit< tt) refl,
      float_read ws 8 m.dt_s f.4 (lit< tt) refl,
    )
    refl

of_status : (s : IdentifyStatus) (a b c : ℕ) → a < 2 ^ 32 → a / 2 ^ 30 ≡ kind_of s → FloatsFit s → report_units (word_bytes (a ∷ b ∷ c ∷ map word_of (floats_of s))) ≡ status_units s
unfolding status_units kind_of floats_of
of_status (Running e) a b c h k f = not_done _ a 0 h k refl
of_status (Done m) a b c h k f = of_done m a b c h k f
of_status Unexcited a b c h k f = not_done _ a 2 h k refl
of_status Saturated a b c h k f = not_done _ a 3 h k refl

pub reported : (r : Report) → FloatsFit r.status → report_units (report_bytes r) ≡ status_units r.status
reported r f =
    ap report_units (report_words r)
    ∙ of_status r.status (packed 0 (fields_of r) / 2 ^ 64) (packed 0 (fields_of r) / 2 ^ 32 % 2 ^ 32) (packed 0 (fields_of r) % 2 ^ 32) (first_small r) (kind_first r) f
