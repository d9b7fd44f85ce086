-- `kernel::StepTable::new` meets its contract: step by step, the sums solve to the fit of the step at the pole (`step_fit`, proofs/Places.antt).
use Rattle.std.proofs.Common.{◌+◌, ◌*◌, ◌/◌, replicate, None, arith}
use Rattle.gain.specs.Gain.{step_count, is_half}
use Rattle.float.proofs.Fill.{fill_same}
use Rattle.kernel.proofs.Places.{step_fit}
use Rattle.kernel.proofs.StepTable.new.Goals as goal

pub returns : goal.returns
returns c = λ q h. fill_same _ _ (replicate step_count None) step_count
    (λ s l r. step_fit c.args.input c.args.poles q s _ (c.sum_places.ensures (s / 2) (q * 2 + is_half s) (omega arith) (omega arith)))
