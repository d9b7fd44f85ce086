-- The call is made where 10 does not turn it back.
use mathlib.Core.Path.{◌≡◌, refl}
use Rattle.std.specs.Prelude.{Err}
use Rattle.std.proofs.Common.{rules}
use Rattle.steady.proofs.SteadyClock.guard.Goals as goal

pub returns-in_err-answer-clause-made : goal.returns-in_err-answer-clause-made
returns-in_err-answer-clause-made g c = λ h.
    let is : c.from_residual.result ≡ Err c.in_err-answer.field-0.0 = search rules in
    rw is (record { shown = _; shows = refl; left = _; met = c.in_err-answer.ensures; leaves = refl })

pub returns-clause-made : goal.returns-clause-made
returns-clause-made g c = λ h. record { shown = _; shows = refl; left = _; met = c.in_ok-answer.ensures; leaves = refl }
