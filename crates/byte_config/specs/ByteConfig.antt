-- A configuration as 24 bytes: 01, "The byte run". "All fields 32-bit, big-endian."
use Rattle.std.specs.Prelude.{ℕ, zero, suc, List}
use Rattle.account.specs.declared.IdentifyConfig.{IdentifyConfig}
use Rattle.account.specs.declared.IdentifyExtension.{IdentifyExtension}
use Rattle.std.specs.Prelude.{Option, Some, None}
use Rattle.wire.specs.Words.{word_at, float_at}

-- "flag (nonzero: extension), its amplitude, its duration"
unfoldable pub extension_of : ℕ → List ℕ → Option IdentifyExtension
extension_of zero bytes = None
extension_of (suc flag) bytes = Some (record { amplitude = float_at bytes 16; duration_s = float_at bytes 20 })

-- "Configuration: amplitude, duration_s, washout_tc_s, flag, .."
unfoldable pub config_of : List ℕ → IdentifyConfig
config_of bytes = record {
  amplitude = float_at bytes 0;
  duration_s = float_at bytes 4;
  washout_tc_s = float_at bytes 8;
  noisy = extension_of (word_at bytes 12) bytes;
}
