-- `shared_sums::Row::of_tick` meets its contract: each term is read where the definition reads it, and the moments are made one by one.
use Rattle.std.proofs.Common.{rules, refl, ◌-◌}
use lib.Ieee.{of_bits, sub}
use Rattle.float.specs.Values.{zero32}
use Rattle.float.specs.Series.{at}
use Rattle.float.proofs.Made.{made_new}
use Rattle.rows.specs.Rows.{target}
use Rattle.shared_sums.specs.Shared.{common_terms, last_moments}
use Rattle.shared_sums.proofs.Row.of_tick.Goals as goal

pub returns-clause-terms : goal.returns-clause-terms
unfolding common_terms target sub of_bits
returns-clause-terms c = refl

pub returns-clause-moments : goal.returns-clause-moments
unfolding last_moments
returns-clause-moments c =
    made_new _ _ (λ j. at c.args.moments.now (c.args.k - j)) (search rules) c.from_fn.result 12 zero32 c.from_fn.ensures.items
