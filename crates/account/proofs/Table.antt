-- The examples of 01's table of refusals, and the edges of its rules, evaluated.
use Prim.Native.Nat.{ℕ}
use mathlib.Core.Path.{◌≡◌, refl}
use mathlib.Core.Bool.{false}
use Rattle.std.specs.Prelude.{Option, Some, None}
use mathlib.Core.List.{[], ◌∷◌, map}
use lib.Ieee.{Float, nan, inf, binary32, of_bits, add, lt, eq, of_int}
use Rattle.float.specs.Values.{zero32, one32, whole32, finite}
use Rattle.account.specs.declared.IdentifyConfig.{IdentifyConfig}
use Rattle.account.specs.Rules.{positive, non_zero, too_long, broken_extension, broken, overrun, refusal}

-- a configuration with no extension, and one of duration 6 with one
abbrev plain : (amplitude duration washout : Float) → IdentifyConfig
plain a d w = record { amplitude = a; duration_s = d; washout_tc_s = w; noisy = None }

abbrev extended : (amplitude duration : Float) → IdentifyConfig
extended a d = record {
  amplitude = one32;
  duration_s = whole32 6;
  washout_tc_s = one32;
  noisy = Some (record { amplitude = a; duration_s = d });
}

-- amplitude 0; duration -1; duration 3,602; washout 0; extension amplitude NaN; extension duration 5 after 6; 3,602 after 6; and three good ones
pub configurations : map broken
    (plain zero32 one32 one32 ∷
    plain one32 (of_bits binary32 0xbf80_0000) one32 ∷
    plain one32 (whole32 3602) one32 ∷
    plain one32 one32 zero32 ∷
    extended nan (whole32 6) ∷
    extended one32 (whole32 5) ∷
    extended one32 (whole32 3602) ∷ plain one32 (whole32 3600) one32 ∷ extended one32 (whole32 6) ∷ extended one32 (whole32 3600) ∷ [])
    ≡ 1 ∷ 2 ∷ 2 ∷ 3 ∷ 4 ∷ 5 ∷ 5 ∷ 0 ∷ 0 ∷ 0 ∷ []
unfolding broken broken_extension non_zero positive too_long finite lt eq of_int of_bits
configurations = refl

-- Two neighbouring rules broken at once are answered by the first. Amplitude 0 and duration -1; duration -1 and washout 0; washout 0 and an
-- extension amplitude of NaN; an extension amplitude of NaN and an extension duration of 5 after 6
pub configurations_order : map broken
    (plain zero32 (of_bits binary32 0xbf80_0000) one32 ∷
    plain one32 (of_bits binary32 0xbf80_0000) zero32 ∷
    record {
      amplitude = one32;
      duration_s = whole32 6;
      washout_tc_s = zero32;
      noisy = Some (record { amplitude = nan; duration_s = whole32 6 });
    } ∷ extended nan (whole32 5) ∷ [])
    ≡ 1 ∷ 2 ∷ 3 ∷ 4 ∷ []
unfolding broken broken_extension non_zero positive too_long finite lt eq of_int of_bits
configurations_order = refl

-- a call of a probe that has run for 0 s
abbrev fresh_call : ℕ → Float → ℕ
fresh_call ticks dt = refusal (Some zero32) ticks dt

-- dt 0; NaN; infinity, by 6 and not by 7; 5,000; one tick more than 16,777,216; that and 5,000, by 7 and not by 8; after the end, dt 0.
-- And, accepted: dt 4,096; the last tick; after the end, dt 5,000
pub calls : fresh_call 0 zero32 ∷
    fresh_call 0 nan ∷
    fresh_call 0 (inf false) ∷
    fresh_call 0 (whole32 5000) ∷
    fresh_call 16_777_216 one32 ∷
    fresh_call 16_777_216 (whole32 5000) ∷
    refusal None 0 zero32 ∷ fresh_call 0 (whole32 4096) ∷ fresh_call 16_777_215 one32 ∷ refusal None 16_777_216 (whole32 5000) ∷ []
    ≡ 6 ∷ 6 ∷ 6 ∷ 7 ∷ 8 ∷ 7 ∷ 6 ∷ 0 ∷ 0 ∷ 0 ∷ []
unfolding refusal overrun positive finite lt add of_int of_bits
calls = refl
