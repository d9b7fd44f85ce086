-- `delay_sums::against` meets its contract: the sums are made term by term.
use Rattle.std.proofs.Common.{rules}
use Rattle.float.specs.Values.{zero32}
use Rattle.float.proofs.Made.{made_new}
use Rattle.delay_sums.specs.Delays.{cross_sum, place_of, against}
use Rattle.delay_sums.proofs.against.Goals as goal

pub returns : goal.returns
unfolding against
returns c =
    made_new _ _ (λ i. cross_sum c.args.shared.now c.args.delay.ticks (place_of i) c.args.b) (search rules) c.from_fn.result 6 zero32 c.from_fn.ensures.items
