-- L satisfies the textbook's equations of itself: where an entry is set, the columns before it are complete.
use Prim.Native.Nat.{ℕ, zero, suc, ◌+◌, ◌-◌, ◌<◌, ◌≤◌}
use mathlib.Core.Path.{◌≡◌, refl, sym, ap, ◌∙◌}
use mathlib.Core.List.{List, []}
use native.Mathlib.Omega.{arith}
use borrow.Author.Tests.{lt-ltb, le-ltb, eq-eqb, ne_eqb}
use lib.ListN.{replicate, get_or}
use lib.Ieee.{Float, nan, binary32, div}
use Rattle.float.specs.Values.{zero32}
use Rattle.float.specs.Root.{rooted}
use Rattle.float.specs.Series.{at, fill}
use Rattle.cholesky.specs.Cholesky.{entry_at, reduced, factor_entry, factor_column, factor}
use Rattle.float.proofs.Fill.{fill_keeps, filled}

module _ (a : List (List Float)) where
  -- L with its first n columns set
  abbrev part : ℕ → List (List Float)
  part n = fill (factor_column a) (replicate 6 (replicate 6 zero32)) n

  kept : (k n : ℕ) → n ≤ 6 → k < n → get_or (part n) k [] ≡ get_or (factor a) k []
  unfolding factor
  kept k n h p = let e : 6 ≡ (6 - n) + n = omega arith in rw e (sym (fill_keeps _ _ [] (6 - n) k n p))

  same : (i j n : ℕ) (e : Float) (k : ℕ) → k ≤ n → n ≤ 6 → reduced (part n) i j e k ≡ reduced (factor a) i j e k
  unfolding reduced
  same i j n e zero h r = refl
  same i j n e (suc k) h r =
      let z : k ≤ n = omega arith in
      rw (kept k n r h, same i j n e k z r)

  -- L(j, j)
  abbrev diagonal : ℕ → Float
  diagonal j = rooted (reduced (factor a) j j (entry_at a j j) j)

  made : (i j : ℕ) → i < 6 → j < 6 → entry_at (factor a) i j ≡ factor_entry a i j (factor a) (diagonal j)
  unfolding factor factor_entry
  made i j p q =
      let h : j ≤ 6 = omega arith in
      let g : j ≤ j = omega arith in
      ap (λ (c : List Float). at c i) (filled _ _ [] 6 j (omega arith) q)
      ∙ filled _ _ nan 6 i (omega arith) p
      ∙ rw (same i j j (entry_at a i j) j g h, same j j j (entry_at a j j) j g h)

  module _ (i j : ℕ) (p : i < 6) (q : j < 6) where
    pub above_diagonal : i < j → entry_at (factor a) i j ≡ zero32
    unfolding factor_entry
    above_diagonal h = made i j p q ∙ simp (lt-ltb i j h)

    pub on_diagonal : i ≡ j → entry_at (factor a) i j ≡ rooted (reduced (factor a) i j (entry_at a i j) j)
    unfolding factor_entry
    on_diagonal h = let g : j ≤ i = omega arith in made i j p q ∙ simp (le-ltb i j g, eq-eqb i j h) (rw h)

    pub below_diagonal : j < i → entry_at (factor a) i j ≡ div binary32 (reduced (factor a) i j (entry_at a i j) j) (entry_at (factor a) j j)
    unfolding factor_entry
    below_diagonal h =
        let g : j ≤ i = omega arith in
        let d : j ≤ j = omega arith in
        made i j p q ∙ simp (le-ltb i j g, ne_eqb i j (λ e. omega arith)) (rw (made j j q q) (simp (le-ltb j j d, eq-eqb j j refl)))
