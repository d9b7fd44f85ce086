-- The plain units of a report as bytes: 36 bytes in, 12 out.
use Rattle.std.specs.Prelude.{ℕ, ◌≡◌, Bool, true, false, ◌&&◌, cond, List, [], ◌∷◌, T, eqb, length, Float}
use Rattle.std.specs.Float.{binary32}
use Rattle.std.specs.Float.Ieee.{neg, fits}
use Rattle.wire.specs.Words.{float_at, word_bytes, word_of, Ran}
use Rattle.account.specs.declared.IdentifyStatus.{IdentifyStatus}
use Rattle.account.specs.declared.IdentifyStatus.TheVariants.{Running, Done, Unexcited, Saturated}
use Rattle.report.specs.declared.Report.{Report}
use Rattle.report.specs.Report.{report_bytes, kind_read}
use Rattle.std.specs.Prelude.{Option, Some, None}
use Rattle.units.specs.declared.Plain.{Plain}
use Rattle.units.specs.Units.{effect_of, units_at, units_of}

-- "kind 2 (0 running, 1 done, ..)": the first two bits
unfoldable pub is_done : List ℕ → Bool
is_done report = eqb (kind_read report) 1

-- the second rate weight stands at byte 16, the moment weights from byte 20 on, dt_s at byte 32
unfoldable pub report_units : List ℕ → Option Plain
report_units report =
    cond (is_done report) (units_at (effect_of (float_at report 20) (float_at report 24) (float_at report 28)) (float_at report 32) (neg (float_at report 16))) None

-- a word 1 or 0, the lag, the acceleration
unfoldable pub unit_words : Option Plain → List ℕ
unit_words None = 0 ∷ 0 ∷ 0 ∷ []
unit_words (Some p) = 1 ∷ word_of p.lag_s ∷ word_of p.accel_radps2 ∷ []

unfoldable pub sized : List ℕ → List ℕ → Bool
sized report output = eqb (length report) 36 && eqb (length output) 12

unfoldable pub units_if : Bool → List ℕ → List ℕ → Ran
units_if false report output = record { result = 9; output = output }
units_if true report output = record { result = 0; output = word_bytes (unit_words (report_units report)) }

-- 9 for a wrong size, and then no byte is written
unfoldable pub byte_units : List ℕ → List ℕ → Ran
byte_units report output = units_if (sized report output) report output

-- ---- of the probe that the report tells of

-- what a status says in plain units: a probe that is not done has neither
unfoldable pub status_units : IdentifyStatus → Option Plain
status_units (Running e) = None
status_units (Done m) = units_of m
status_units Unexcited = None
status_units Saturated = None

abbrev pub f32 : Float → Type 0
f32 x = T (fits binary32 x)

-- the floats of a model are f32s
abbrev pub FloatsFit : IdentifyStatus → Type 0
FloatsFit (Running e) = Unit {0}
FloatsFit (Done m) = f32 m.r2 × f32 m.m0 × f32 m.m1 × f32 m.m2 × f32 m.dt_s
FloatsFit Unexcited = Unit {0}
FloatsFit Saturated = Unit {0}

-- the bytes of a report give the units of the status that it tells of
abbrev pub TellsUnits : (report before after : List ℕ) → Type 0
TellsUnits report before after = (r : Report) → FloatsFit r.status → report ≡ report_bytes r → length before ≡ 12 → after ≡ word_bytes (unit_words (status_units r.status))
