-- `least_squares::Sums::solve` meets its contract: each call is one of the definition's steps, and where they are taken every diagonal is above 0.
use Rattle.std.proofs.Common.{rules, length, ◌≡◌, true, false, refl, sym, ◌∙◌}
use mathlib.Core.Bool.{true≢false}
use Rattle.least_squares.specs.Solve.{difference_of, solve_if, solve_with, solve}
use Rattle.least_squares.proofs.Diagonals.{fails}
use Rattle.least_squares.proofs.Six.{dot_is}
use Rattle.least_squares.proofs.Sums.solve.Goals as goal

pub returns-then-not-diagonals_above_zero : goal.returns-then-not-diagonals_above_zero
unfolding solve solve_with solve_if
returns-then-not-diagonals_above_zero c = record {
  is =
      let no : c.diagonals_above_zero.result ≡ false = cc in
      rw (← c.factored-l.ensures.by_entry, ← c.diagonals_above_zero.ensures.by_entry, no);
  no_fit = λ j h e. refl;
}

pub returns : goal.returns
unfolding solve solve_with solve_if difference_of
returns c =
    let yes : c.diagonals_above_zero.result ≡ true = cc in
    let s = c.backward_solved-s in
    let six : length s.result ≡ 6 = search (rules, s.type_inv) in
    let and_six : length c.args.self.projected ≡ 6 = search (rules, c.well_formed) in
    let above = c.diagonals_above_zero.ensures.in_order c.factored-l.ensures.by_entry in
    record {
      is =
          rw (
            ← c.factored-l.ensures.by_entry,
            ← c.diagonals_above_zero.ensures.by_entry,
            yes,
            ← c.forward_solved-z.ensures,
            ← c.backward_solved-s.ensures,
            ← dot_is s.result c.args.self.projected six and_six,
            ← c.dot_product.ensures,
          )
          c.fit_if_finite.ensures;
      no_fit = λ j h e. absurd (true≢false (sym yes ∙ above ∙ fails _ 6 j h e));
    }
