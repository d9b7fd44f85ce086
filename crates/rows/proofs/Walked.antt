-- What one tick does to a walk over the rows, whatever is walked: a tick that is the 12th or more of its run is a row, another one changes nothing.
use Prim.Native.Nat.{ℕ, zero, suc, ◌+◌, ◌<◌, ◌≤◌, min}
use mathlib.Core.Path.{◌≡◌, refl, sym, ap, ◌∙◌}
use mathlib.Core.Bool.{Bool, true, false, cond}
use mathlib.Core.List.{List}
use native.Mathlib.Omega.{arith}
use native.Mathlib.Numerals.{add-one}
use lib.Dec.{leb, leb-suc-zero, leb-suc-suc}
use borrow.Author.Tests.{le-leb, lt-leb}
use lib.Ieee.{Float, binary32, add}
use Rattle.window.specs.Walk.{run, over, mark_at, is_row}
use Rattle.window.proofs.Bounds.{run_at_most}
use Rattle.rows.specs.Rows.{next_run, each}
use Rattle.rows.proofs.Each.{each_each, each_same, each_by}

-- the 12th or more of its run, by the run that it ends
ends : (x : Bool) (n : ℕ) → leb 12 (cond x 0 (suc n)) ≡ is_row x n
ends true n = leb-suc-zero 11
ends false n = leb-suc-suc 11 n

-- counting on from a count to 12 is counting on, to 12
counted : (x : Bool) (n : ℕ) → next_run x (min n 12) ≡ min (cond x 0 (suc n)) 12
counted true n = refl
counted false n = omega arith

-- a walk from s₀ once the ticks below k are in, with the run that ends there, counted to 12
pub record Walked {S : Type 0} (marks : List Bool) (f : S → ℕ → S) (s₀ : S) (k r : ℕ) (s : S) : Type 0 where
  pub run_is : r ≡ min (run (mark_at marks) k) 12
  pub total_is : s ≡ over is_row (mark_at marks) f s₀ k

module _ {S : Type 0} {marks : List Bool} {f : S → ℕ → S} {s₀ : S} where
  pub begun : Walked marks f s₀ 0 0 s₀
  unfolding run over
  begun = record { run_is = refl; total_is = refl }

  module _ {k r : ℕ} {s : S} (w : Walked marks f s₀ k r s) {r' : ℕ} (e : r' ≡ next_run (mark_at marks k) r) where
    longer : r' ≡ min (run (mark_at marks) (suc k)) 12
    unfolding run
    longer = e ∙ ap (next_run (mark_at marks k)) w.run_is ∙ counted (mark_at marks k) (run (mark_at marks) k)

    test : leb 12 (run (mark_at marks) (suc k)) ≡ is_row (mark_at marks k) (run (mark_at marks) k)
    unfolding run
    test = ends (mark_at marks k) (run (mark_at marks) k)

    -- a row has eleven ticks before it
    pub late : 12 ≤ r' → 11 ≤ k
    late h = omega (arith, longer, run_at_most (mark_at marks) (suc k))

    pub skipped : r' < 12 → Walked marks f s₀ (k + 1) r' s
    unfolding over
    skipped h =
        let l : run (mark_at marks) (suc k) < 12 = omega (arith, longer) in
        let no : is_row (mark_at marks k) (run (mark_at marks) k) ≡ false = sym test ∙ lt-leb _ _ l in
        rw add-one (record { run_is = longer; total_is = rw no w.total_is })

    pub added : 12 ≤ r' → {s' : S} → s' ≡ f s k → Walked marks f s₀ (k + 1) r' s'
    unfolding over
    added h q =
        let l : 12 ≤ run (mark_at marks) (suc k) = omega (arith, longer) in
        let yes : is_row (mark_at marks k) (run (mark_at marks) k) ≡ true = sym test ∙ le-leb _ _ l in
        rw add-one (record { run_is = longer; total_is = rw (yes, ← w.total_is) q })

-- m sums of f, one tick on
abbrev pub adds : ℕ → (ℕ → ℕ → Float) → List Float → ℕ → List Float
adds m f s k = each m (λ i x. add binary32 x (f i k)) s

-- entries that are walked side by side are one walk of all
module _ {A : Type 0} (such : Bool → ℕ → Bool) (mark : ℕ → Bool) (m : ℕ) (f : ℕ → A → ℕ → A) (l : List A) where
  abbrev one : ℕ → ℕ → A → A
  one n i s = over such mark (f i) s n

  abbrev all : List A → ℕ → List A
  all s k = each m (λ i x. f i x k) s

  turn : (b : Bool) (n : ℕ) → each m (λ i s. cond b (f i (one n i s) n) (one n i s)) l ≡ cond b (all (each m (one n) l) n) (each m (one n) l)
  turn true n = sym (each_each m (λ i x. f i x n) (one n) l)
  turn false n = refl

  pub each_over : (n : ℕ) → each m (one n) l ≡ over such mark all l n
  unfolding over
  each_over zero = each_same m l
  each_over (suc n) = turn (such (mark n) (run mark n)) n ∙ rw (each_over n)

-- the same of lists of sums, p(j) of list j
pub each_each_over : (such : Bool → ℕ → Bool) (mark : ℕ → Bool) (m : ℕ) (p : ℕ → ℕ) (f : ℕ → ℕ → ℕ → Float) (l : List (List Float)) (n : ℕ)
    → each m (λ j r. each (p j) (λ i s. over such mark (λ (x : Float) (k : ℕ). add binary32 x (f j i k)) s n) r) l ≡ over such mark (λ s k. each m (λ j r. adds (p j) (f j) r k) s) l n
each_each_over such mark m p f l n =
    each_by m _ _ l (λ j r. each_over such mark (p j) (λ i x k. add binary32 x (f j i k)) r n)
    ∙ each_over such mark m (λ j r k. adds (p j) (f j) r k) l n
