-- The first place that passes, counted from one, is the definition's position.
use Rattle.std.proofs.Common.{rules, ◌+◌, ap, sym, ◌∙◌}
use Rattle.std.specs.Option.{option_map}
use Rattle.delay.proofs.First.{first}
use Rattle.delay.proofs.first_within.Goals as goal

pub returns-in_err-place : goal.returns-in_err-place
returns-in_err-place c =
    c.from_residual.ensures ∙ sym (ap (option_map (λ k. k + 1)) (sym c.place_within.ensures ∙ c.in_err-place.was)) ∙ first _ _ _ _ (search rules)

pub returns : goal.returns
returns c = sym (ap (option_map (λ k. k + 1)) (sym c.place_within.ensures ∙ c.in_ok-place.was)) ∙ first _ _ _ _ (search rules)
