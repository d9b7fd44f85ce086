-- The half tick in three reports, evaluated: of a half delay, and of a whole and a half one whose gain is 0. The last two differ in that bit alone.
use Prim.Native.Nat.{ℕ}
use mathlib.Core.Path.{◌≡◌, refl}
use mathlib.Core.List.{List, [], ◌∷◌, ◌++◌}
use lib.ListN.{replicate}
use lib.Ieee.{Float, binary32, of_bits, to_bits, add, sub, mul, neg}
use Rattle.float.specs.Values.{zero32, one32}
use Rattle.wire.specs.Words.{bytes_of, word_bytes}
use Rattle.integrated.specs.Integrated.{model_of}
use Rattle.account.specs.declared.IdentifyStatus.TheVariants.{Done}
use Rattle.account.specs.Probe.{delay_of}
use Rattle.report.specs.declared.Report.{Report}
use Rattle.report.specs.Report.{kind_of, floats_of, fields_of, packed, report_bytes}

-- 0.5 and 0.25
abbrev half : Float
half = of_bits binary32 0x3f00_0000

abbrev quarter : Float
quarter = of_bits binary32 0x3e80_0000

-- the integrated fit's model at position p with a gain, at a pole of 0.5 and ticks of 0.25 s, after 16 ticks
unfoldable pub fitted : ℕ → Float → Report
fitted p gain = record {
  ticks = 16;
  stored = 16;
  held = 0;
  warm = 11;
  rows = 5;
  status = Done (model_of (record { bracket = record { pole = half; low = zero32; high = one32 }; fit = record { gain = gain; residual = one32 } }) p quarter);
  gain_fits = 2604;
}

-- the counts, and the two rate weights 1.5 and -0.5
unfoldable pub counts : List ℕ
counts = 0 ∷ 0 ∷ 0x08 ∷ 0 ∷ 0x80 ∷ 0 ∷ 0 ∷ 0x58 ∷ 0x02 ∷ 0xd1 ∷ 0x60 ∷ 0x3f ∷ 0xc0 ∷ 0 ∷ 0 ∷ 0xbf ∷ 0 ∷ 0 ∷ 0 ∷ []

-- 3.5 ticks, moment weights 0.25, 0.25, 0
pub half_delay : report_bytes (fitted 6 one32) ≡ 0x4e ∷ (counts ++ (0x3e ∷ 0x80 ∷ 0 ∷ 0 ∷ 0x3e ∷ 0x80 ∷ 0 ∷ 0 ∷ 0 ∷ 0 ∷ 0 ∷ 0 ∷ 0x3e ∷ 0x80 ∷ 0 ∷ 0 ∷ []))
unfolding fitted counts report_bytes bytes_of word_bytes packed fields_of kind_of floats_of delay_of model_of of_bits to_bits add sub mul neg
half_delay = refl

-- 3 ticks, moment weights 0
pub whole_no_gain : report_bytes (fitted 5 zero32) ≡ 0x4c ∷ (counts ++ (replicate 12 0 ++ (0x3e ∷ 0x80 ∷ 0 ∷ 0 ∷ [])))
unfolding fitted counts report_bytes bytes_of word_bytes packed fields_of kind_of floats_of delay_of model_of of_bits to_bits add sub mul neg
whole_no_gain = refl

-- 3.5 ticks, moment weights 0
pub half_no_gain : report_bytes (fitted 6 zero32) ≡ 0x4e ∷ (counts ++ (replicate 12 0 ++ (0x3e ∷ 0x80 ∷ 0 ∷ 0 ∷ [])))
unfolding fitted counts report_bytes bytes_of word_bytes packed fields_of kind_of floats_of delay_of model_of of_bits to_bits add sub mul neg
half_no_gain = refl
