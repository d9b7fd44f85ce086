-- `integrated::search` meets its contract, a case for each answer of the tie rule (proofs/Choice.antt).
use Rattle.std.proofs.Common.{sym, ◌∙◌}
use Rattle.float.specs.Values.{zero32}
use Rattle.delay.proofs.Winner.{won}
use Rattle.integrated.proofs.Choice.{nowhere, at_position}
use Rattle.integrated.proofs.search.Goals as goal

pub invariant_of-choose : goal.invariant_of-choose
invariant_of-choose c =
    let w = won zero32 _ _ (sym c.delay_to_fit-position.ensures ∙ c.in-Some.is) in record { from_one = w.from_one; in_list = w.in_list }

pub returns-in-None : goal.returns-in-None
returns-in-None c =
    c.no_model.ensures ∙ nowhere _ _ _ _ c.keep_poles-kept.ensures.is c.entries.ensures (sym c.delay_to_fit-position.ensures ∙ c.in-None.is)

pub returns-in-Some : goal.returns-in-Some
returns-in-Some c =
    c.choose.ensures ∙ at_position _ _ _ _ c.keep_poles-kept.ensures.is c.entries.ensures _ (sym c.delay_to_fit-position.ensures ∙ c.in-Some.is)
