-- What a run that answers 0 has written.
use Prim.Native.Nat.{ℕ, zero, suc}
use mathlib.Core.Path.{◌≡◌, refl, sym, ◌∙◌}
use mathlib.Core.Bool.{Bool, true, false}
use mathlib.Core.List.{List}
use native.Mathlib.Omega.{arith}
use Rattle.account.specs.declared.IdentifyConfig.{IdentifyConfig}
use Rattle.account.specs.Rules.{broken}
use Rattle.byte_config.specs.ByteConfig.{config_of}
use Rattle.batch.specs.declared.Sizes.{Sizes}
use Rattle.batch.specs.Sized.{sized}
use Rattle.batch.specs.Batch.{onto, ran, run_if, batch_run}

wrote : (b : Bool) (n : ℕ) (bytes output : List ℕ) → (run_if b n bytes output).result ≡ 0 → (run_if b n bytes output).output ≡ onto bytes output
unfolding run_if ran
wrote true zero bytes output h = refl
wrote true (suc n) bytes output h = absurd (omega arith)
wrote false n bytes output h = absurd (omega arith)

pub writes : (s : Sizes) (written : IdentifyConfig → List ℕ → List ℕ) (config calls output : List ℕ) {result : ℕ} {after : List ℕ}
    → result ≡ (batch_run s written config calls output).result → after ≡ (batch_run s written config calls output).output
    → result ≡ 0 → after ≡ onto (written (config_of config) calls) output
unfolding batch_run
writes s written config calls output e f h =
    f ∙ wrote (sized s config calls output) (broken (config_of config)) (written (config_of config) calls) output (sym e ∙ h)
