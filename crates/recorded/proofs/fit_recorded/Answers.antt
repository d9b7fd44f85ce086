-- `recorded::fit_recorded` meets its contract: each call is one of the definition's stages at the stored count, and the position that wins is a delay.
use Rattle.std.proofs.Common.{rules, ◌≡◌, ℕ, ◌-◌, ◌≤◌, ◌<◌, List, get_or, Option, Some, None, sym, ap, ◌∙◌, arith}
use Rattle.delay.specs.declared.Entry.{Entry}
use Rattle.delay.specs.Tie.{delay_to_fit}
use Rattle.least_squares.specs.declared.Solution.{Solution}
use Rattle.shared_sums.specs.declared.SharedSums.{SharedSums}
use Rattle.recorded.specs.Classify.{tie_share, max_delay, entries, fit_of}
use Rattle.recorded.specs.Stages.{solved_list, solved_from, rows_dt_from, fit_from}
use Rattle.recorded.proofs.Winner.{solved_at, entries_read, is_a_delay}
use Rattle.recorded.proofs.Prefix.{few_rows, fit_cut}
use Rattle.recorded.proofs.fit_recorded.Goals as goal

-- the position is the tie rule's, over the fits of all delays, and it is a delay
module _ (shared : SharedSums) {fits : List (Option Solution)} {list : List (Option Entry)} {q : Option ℕ}
    (e : fits ≡ solved_list (solved_from shared)) (g : list ≡ entries (λ k. get_or fits k None)) (d : q ≡ delay_to_fit tie_share list) where
  position : q ≡ delay_to_fit tie_share (entries (solved_from shared))
  position = d ∙ ap (delay_to_fit tie_share) (entries_read (solved_from shared) e g)

  winner : {p : ℕ} → q ≡ Some p → (1 ≤ p) × (p ≤ max_delay)
  winner h = is_a_delay _ tie_share _ (sym position ∙ h)

pub at_least_one-requires-2 : goal.at_least_one-requires-2
at_least_one-requires-2 c = let s = c.stored-n.ensures in few_rows (rw s.count at s.room) c.sum_shared-shared.ensures

pub returns-in_err-p : goal.returns-in_err-p
unfolding fit_from fit_of
returns-in_err-p c =
    let s = c.stored-n.ensures in
    let q = position _ c.solve_delays-fits.ensures c.entries.ensures c.delay_to_fit.ensures in
    let none : c.delay_to_fit.result ≡ None = search rules in
    let given : c.from_residual.result ≡ None = search rules in
    given ∙ sym (fit_cut (rw s.count at s.room) c.sum_shared-shared.ensures _ ∙ rw (← q, none))

pub overflow_sub-p : goal.overflow_sub-p
overflow_sub-p c = (winner _ c.solve_delays-fits.ensures c.entries.ensures c.delay_to_fit.ensures c.in_ok-p.was).0

pub offset_bounds-fits-p : goal.offset_bounds-fits-p
offset_bounds-fits-p c = omega (arith, (winner _ c.solve_delays-fits.ensures c.entries.ensures c.delay_to_fit.ensures c.in_ok-p.was).1)

pub bounds-fits-p : goal.bounds-fits-p
bounds-fits-p c = let w = winner _ c.solve_delays-fits.ensures c.entries.ensures c.delay_to_fit.ensures c.in_ok-p.was in omega (arith, w.0, w.1)

pub fit-requires : goal.fit-requires
fit-requires c =
    let s = c.stored-n.ensures in
    let w = winner _ c.solve_delays-fits.ensures c.entries.ensures c.delay_to_fit.ensures c.in_ok-p.was in
    (omega (arith, w.1), few_rows (rw s.count at s.room) c.sum_shared-shared.ensures)

pub returns : goal.returns
unfolding fit_from fit_of rows_dt_from
returns c =
    let s = c.stored-n.ensures in
    let q = position _ c.solve_delays-fits.ensures c.entries.ensures c.delay_to_fit.ensures in
    let w = winner _ c.solve_delays-fits.ensures c.entries.ensures c.delay_to_fit.ensures c.in_ok-p.was in
    let h : c.in_ok-p.p - 1 < max_delay = omega (arith, w.0, w.1) in
    c.fit.ensures
    ∙ sym
    (fit_cut (rw s.count at s.room) c.sum_shared-shared.ensures _
    ∙ rw (
      ← q,
      c.in_ok-p.was,
      c.solve_delays-fits.ensures,
      solved_at _ _ h,
      c.at_least_one-2.ensures,
      c.sum_rows_dt.ensures,
      c.at_least_one.ensures,
      s.count,
    ))
