-- A place past the fits has no entry, as a missing fit has none.
use Rattle.std.proofs.Common.{rules, List, Option, ℕ, ◌+◌, ◌≡◌, ◌∙◌, None, refl, length, arith}
use Rattle.std.proofs.lemmas.List.{get_or_past}
use lib.ListN.{replicate, get_or}
use Rattle.float.specs.Series.{fill}
use Rattle.float.proofs.Made.{made_new}
use Rattle.least_squares.specs.declared.Solution.{Solution}
use Rattle.recorded.specs.Classify.{entry_of, entries}
use Rattle.recorded.proofs.entries.Goals as goal

module _ (fits : List (Option Solution)) (l : length fits ≡ 10) where
  past : (k : ℕ) → get_or fits (10 + k) None ≡ None
  past k = get_or_past fits (10 + k) None (omega arith)

  ten_of_twenty : fill (λ k l. entry_of (get_or fits k None)) (replicate 20 None) 20 ≡ entries (λ k. get_or fits k None)
  unfolding entries entry_of fill
  ten_of_twenty = rw (past 0, past 1, past 2, past 3, past 4, past 5, past 6, past 7, past 8, past 9) refl

pub returns : goal.returns
unfolding entry_of
returns c =
    made_new _ _ (λ k. entry_of (get_or c.args.fits k None)) (search rules) c.from_fn.result 20 None c.from_fn.ensures.items
    ∙ ten_of_twenty c.args.fits (search rules)
