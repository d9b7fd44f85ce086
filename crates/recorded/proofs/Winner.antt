-- The tie rule's list has the ten delays and nothing after them, so that the position that wins is a delay, 1 to 10.
use Prim.Native.Nat.{ℕ, zero, suc, ◌+◌, ◌-◌, ◌<◌, ◌≤◌}
use mathlib.Core.Path.{◌≡◌, refl, sym, ap, ◌∙◌}
use mathlib.Core.Bool.{Bool, true, false}
use mathlib.Core.List.{List}
use native.Mathlib.Omega.{arith}
use borrow.Author.Tests.{leb-true, leb-false}
use lib.Dec.{leb}
use lib.ListN.{get_or, replicate}
use lib.Ieee.{Float}
use Rattle.delay.specs.declared.Entry.{Entry}
use Rattle.std.specs.Prelude.{Option, Some, None}
use Rattle.delay.specs.Tie.{entry_count, delay_to_fit}
use Rattle.delay.proofs.Winner.{won}
use Rattle.least_squares.specs.declared.Solution.{Solution}
use Rattle.float.proofs.Fill.{fill_at, fill_same, unfilled}
use Rattle.recorded.specs.Classify.{max_delay, entry_of, entries, fit_of}
use Rattle.recorded.specs.Stages.{solved_list}

all_alike : {A : Type 0} (z : A) (n k : ℕ) → get_or (replicate n z) k z ≡ z
all_alike z zero k = refl
all_alike z (suc n) zero = refl
all_alike z (suc n) (suc k) = all_alike z n k

module _ (f : ℕ → Option Solution) where
  -- a delay's fit, as the list of fits has it
  pub solved_at : (k : ℕ) → k < max_delay → get_or (solved_list f) k None ≡ f k
  unfolding solved_list
  solved_at k h =
      let e : max_delay ≡ (9 - k) + suc k = omega arith in
      rw e (fill_at (λ k l. f k) (replicate max_delay None) None (9 - k) k h)

  -- past the ten delays
  none_after : (k : ℕ) → max_delay ≤ k → get_or (entries f) k None ≡ None
  unfolding entries
  none_after k h = unfilled (λ n l. entry_of (f n)) (replicate entry_count None) None max_delay k h ∙ all_alike None entry_count k

  -- two functions that agree on the delays give one list of entries
  pub entries_by : (g : ℕ → Option Solution) → ((k : ℕ) → k < max_delay → f k ≡ g k) → entries f ≡ entries g
  unfolding entries
  entries_by g h = fill_same (λ n l. entry_of (f n)) (λ n l. entry_of (g n)) _ max_delay (λ k l p. ap entry_of (h k p))

  -- the entries made from the list of fits are those of the delays' fits
  pub entries_read : {fits : List (Option Solution)} {list : List (Option Entry)} → fits ≡ solved_list f → list ≡ entries (λ k. get_or fits k None) → list ≡ entries f
  entries_read e g = g ∙ sym (entries_by _ (λ k h. rw e (sym (solved_at k h))))

  bounded : (p : ℕ) → (get_or (entries f) (p - 1) None ≡ None → ⊥) → (b : Bool) → leb p max_delay ≡ b → p ≤ max_delay
  bounded p there true t = leb-true p max_delay t
  bounded p there false t = let l = leb-false p max_delay t in absurd (there (none_after (p - 1) (omega arith)))

  pub is_a_delay : (share : Float) (p : ℕ) → delay_to_fit share (entries f) ≡ Some p → (1 ≤ p) × (p ≤ max_delay)
  is_a_delay share p e = let w = won share (entries f) p e in (w.from_one, bounded p w.there (leb p max_delay) refl)

-- the fit of the position that wins reads the delays' fits alone
pub fit_by : (f g : ℕ → Option Solution) → ((k : ℕ) → k < max_delay → f k ≡ g k) → (share dt : Float) (rows : ℕ) (q : Option ℕ) → delay_to_fit share (entries g) ≡ q → fit_of q f dt rows ≡ fit_of q g dt rows
unfolding fit_of
fit_by f g h share dt rows None e = refl
fit_by f g h share dt rows (Some p) e =
    let w = is_a_delay g share p e in
    let l : p - 1 < max_delay = omega (arith, w.0, w.1) in
    rw (h (p - 1) l)
