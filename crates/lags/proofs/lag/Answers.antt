-- `lags::lag` meets its contract: each entry of the table is its lag (proofs/Table.antt).
use borrow.Author.Rules.{rules}
use Rattle.lags.proofs.Table.{first, others, table_at}
use Rattle.lags.proofs.lag.Goals as goal

pub returns : goal.returns
unfolding first others
returns c = table_at c.args.i (search rules)
