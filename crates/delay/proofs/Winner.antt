-- Whatever wins is in the list: its position is 1 to 20, and its entry is a fit.
use Prim.Native.Nat.{ℕ, zero, suc, ◌+◌, ◌-◌, ◌≤◌}
use mathlib.Core.Path.{◌≡◌, refl, sym, ◌∙◌}
use mathlib.Core.Bool.{Bool, true, false, true≢false}
use mathlib.Core.List.{List}
use native.Mathlib.Omega.{arith}
use lib.ListN.{get_or}
use lib.Ieee.{Float}
use Rattle.delay.specs.declared.Entry.{Entry}
use Rattle.std.specs.Prelude.{Option, Some, None}
use Rattle.delay.specs.Tie.{entry_count, considered, residuals, least_to, within, here, first_from, under_bar, shortest_tied, or_else, delay_to_fit}

-- position p is one of the n from place i on, and stands for a residual that is within the bar
abbrev First : Float → (ℕ → Option Float) → ℕ → ℕ → ℕ → Type 0
First bar r i n p = (i + 1 ≤ p) × (p ≤ i + n) × (within bar (r (p - 1)) ≡ true)

-- one turn: the place itself, or one after it
turn : (bar : Float) (r : ℕ → Option Float) (i n p : ℕ) (b : Bool) (rest : Option ℕ) → within bar (r i) ≡ b → here b i rest ≡ Some p → (rest ≡ Some p → First bar r (i + 1) n p) → First bar r i (suc n) p
turn bar r i n p true rest w q f =
    let z : i + 1 ≡ p = cc in
    let y : p - 1 ≡ i = omega arith in
    (omega arith, omega arith, rw y w)
turn bar r i n p false rest w q f = let z = f q in (omega (arith, z.0), omega (arith, z.1), z.2)

first : (bar : Float) (r : ℕ → Option Float) (i n p : ℕ) → first_from bar r i n ≡ Some p → First bar r i n p
unfolding first_from
first bar r i zero p e = absurd (let z : ◌≡◌ {A = ℕ} 0 1 = cc in omega arith)
first bar r i (suc n) p e = turn bar r i n p (within bar (r i)) (first_from bar r (i + 1) n) refl e (λ q. first bar r (i + 1) n p q)

-- an entry that is missing is no residual, and none is within a bar
none : (all : Bool) (bar : Float) (entries : List (Option Entry)) (k : ℕ) → get_or entries k None ≡ None → within bar (residuals all entries k) ≡ false
unfolding residuals considered within
none all bar entries k h = rw h

-- the winner's position, and that its entry is there
pub record Won (entries : List (Option Entry)) (p : ℕ) : Type 0 where
  pub from_one : 1 ≤ p
  pub in_list : p ≤ entry_count
  pub there : get_or entries (p - 1) None ≡ None → ⊥

module _ (share : Float) (entries : List (Option Entry)) (p : ℕ) where
  under : (all : Bool) (m : Option Float) → under_bar share (residuals all entries) m ≡ Some p → Won entries p
  unfolding under_bar
  under all None e = absurd (let z : ◌≡◌ {A = ℕ} 0 1 = cc in omega arith)
  under all (Some m) e =
      let w = first _ (residuals all entries) 0 entry_count p e in
      record {
        from_one = omega (arith, w.0);
        in_list = omega (arith, w.1);
        there = λ h. true≢false (sym w.2 ∙ none all _ entries (p - 1) h);
      }

  tied : (all : Bool) → shortest_tied share all entries ≡ Some p → Won entries p
  unfolding shortest_tied
  tied all e = under all (least_to (residuals all entries) entry_count) e

  pub won : delay_to_fit share entries ≡ Some p → Won entries p
  unfolding delay_to_fit
  won e = go (shortest_tied share false entries) refl e
    where
      go : (q : Option ℕ) → shortest_tied share false entries ≡ q → or_else q (shortest_tied share true entries) ≡ Some p → Won entries p
      go None f h = tied true h
      go (Some k) f h = tied false (f ∙ h)
