-- A run over bytes: 01, "The byte run", and 02, request five, which has its form.
use Rattle.std.specs.Prelude.{ℕ, zero, suc, Bool, true, false, List, ◌++◌, length, drop}
use Rattle.account.specs.declared.IdentifyConfig.{IdentifyConfig}
use Rattle.account.specs.Rules.{broken}
use Rattle.wire.specs.Words.{Ran}
use Rattle.byte_config.specs.ByteConfig.{config_of}
use Rattle.batch.specs.declared.Sizes.{Sizes}
use Rattle.batch.specs.Sized.{sized}

-- over the bytes that stood there; "Later bytes are untouched."
unfoldable pub onto : List ℕ → List ℕ → List ℕ
onto bytes output = bytes ++ drop (length bytes) output

-- "9, and 1 to 5 in a byte run, write no byte"
unfoldable pub ran : ℕ → (bytes output : List ℕ) → Ran
ran (suc n) bytes output = record { result = suc n; output = output }
ran zero bytes output = record { result = 0; output = onto bytes output }

-- 9 "precedes all"
unfoldable pub run_if : Bool → ℕ → (bytes output : List ℕ) → Ran
run_if false n bytes output = record { result = 9; output = output }
run_if true n bytes output = ran n bytes output

-- "it returns 0, or the number of 1 to 5 or 9"
unfoldable pub batch_run : Sizes → (written : IdentifyConfig → List ℕ → List ℕ) → (config calls output : List ℕ) → Ran
batch_run s written config calls output =
    run_if (sized s config calls output) (broken (config_of config)) (written (config_of config) calls) output
