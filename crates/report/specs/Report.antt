-- The report's 36 bytes: 01, "The report".
use Rattle.std.specs.Prelude.{ℕ, ◌+◌, ◌*◌, ◌/◌, ◌%◌, ◌^◌, ◌≤◌, ◌<◌, ◌≡◌, true, List, [], ◌∷◌, ◌++◌, map, get_or, Float}
use Rattle.float.specs.Values.{zero32, finite}
use Rattle.wire.specs.Words.{bytes_of, word_bytes, word_of, word_at, float_at}
use Rattle.delay.specs.declared.Delay.{Delay}
use Rattle.delay.specs.HalfTicks.{whole_ticks, half_tick}
use Rattle.account.specs.declared.IdentifyStatus.{IdentifyStatus}
use Rattle.account.specs.declared.IdentifyStatus.TheVariants.{Running, Done, Unexcited, Saturated}
use Rattle.account.specs.Probe.{delay_of}
use Rattle.report.specs.declared.Report.{Report}

-- "kind 2 (0 running, 1 done, 2 Unexcited, 3 Saturated)"
unfoldable pub kind_of : IdentifyStatus → ℕ
kind_of (Running e) = 0
kind_of (Done m) = 1
kind_of Unexcited = 2
kind_of Saturated = 3

-- "two rate weights, three moment weights, dt_s (elapsed if running); unused ones 0"
unfoldable pub floats_of : IdentifyStatus → List Float
floats_of (Running e) = zero32 ∷ zero32 ∷ zero32 ∷ zero32 ∷ zero32 ∷ e ∷ []
floats_of (Done m) = m.r1 ∷ m.r2 ∷ m.m0 ∷ m.m1 ∷ m.m2 ∷ m.dt_s ∷ []
floats_of Unexcited = zero32 ∷ zero32 ∷ zero32 ∷ zero32 ∷ zero32 ∷ zero32 ∷ []
floats_of Saturated = zero32 ∷ zero32 ∷ zero32 ∷ zero32 ∷ zero32 ∷ zero32 ∷ []

-- a field of so many bits
pub record Field : Type 0 where
  pub width : ℕ
  pub value : ℕ

abbrev pub bits : ℕ → ℕ → Field
bits w v = record { width = w; value = v }

-- "Bits, most significant first: kind 2, d 4, zero 2, ticks 25, stored 12, held 12, warm 12, rows 12, gain fits 12, zero 3"
-- 02, two: "The first of the two zero bits after d becomes 1 for a half delay and 0 for all else."
unfoldable pub fields_of : Report → List Field
fields_of r =
    bits 2 (kind_of r.status) ∷
    bits 4 (whole_ticks (delay_of r.status)) ∷
    bits 1 (half_tick (delay_of r.status)) ∷
    bits 1 0 ∷
    bits 25 r.ticks ∷
    bits 12 r.stored ∷
    bits 12 r.held ∷ bits 12 r.warm ∷ bits 12 r.rows ∷ bits 12 r.gain_fits ∷ bits 3 0 ∷ []

-- fields side by side as one number, each cut to its width
unfoldable pub packed : ℕ → List Field → ℕ
packed n [] = n
packed n (f ∷ fs) = packed (n * 2 ^ f.width + f.value % 2 ^ f.width) fs

-- 12 bytes of fields, "then six 32-bit floats"
unfoldable pub report_bytes : Report → List ℕ
report_bytes r = bytes_of 12 (packed 0 (fields_of r)) ++ word_bytes (map word_of (floats_of r.status))

-- what a reader finds in the first byte of a report: d, and the half tick after it
unfoldable pub d_read : List ℕ → ℕ
d_read bytes = get_or bytes 0 0 / 4 % 16

unfoldable pub half_read : List ℕ → ℕ
half_read bytes = get_or bytes 0 0 / 2 % 2

-- both are those of a delay
abbrev pub Tells : List ℕ → Delay → Type 0
Tells bytes delay = (d_read bytes ≡ whole_ticks delay) × (half_read bytes ≡ half_tick delay)

-- what a reader finds of its kind, and of its gain fits
abbrev pub kind_read : List ℕ → ℕ
kind_read bytes = word_at bytes 0 / 2 ^ 30

abbrev pub fits_read : List ℕ → ℕ
fits_read bytes = word_at bytes 8 / 8 % 2 ^ 12

-- 02, four, "An integrated model then holds finite numbers only": where it is done and tells of gain fits, its six floats are finite
abbrev pub TellsFinite : List ℕ → Type 0
TellsFinite bytes = kind_read bytes ≡ 1 → 1 ≤ fits_read bytes → (k : ℕ) → k < 6 → finite (float_at bytes (12 + 4 * k)) ≡ true
