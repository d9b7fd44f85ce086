-- Tables of what the 20 steps keep: an entry, and one or three more poles against a table.
use Rattle.std.proofs.Common.{◌≡◌, ℕ, zero, suc, ◌+◌, ◌*◌, ◌<◌, ◌≤◌, min, Bool, true, false, List, [], ◌∷◌, length, get_or, replicate, ltb, refl, sym, ap, ◌∙◌, arith}
use Rattle.std.proofs.lemmas.List.{length-replicate, ext_get_or}
use borrow.Author.Tests.{ltb-true, ltb-false}
use lib.Ieee.{Float}
use Rattle.std.specs.Prelude.{Option, None}
use Rattle.float.specs.Series.{at, fill}
use Rattle.lags.specs.Lags.{lag_count, pole_of}
use Rattle.gain.specs.declared.GainFit.{GainFit}
use Rattle.gain.specs.Gain.{step_count}
use Rattle.float.proofs.Fill.{length_fill, filled, unfilled}
use Rattle.kernel.specs.Kernel.{step_fits}
use Rattle.grid.specs.declared.Bracket.{Bracket}
use Rattle.grid.specs.declared.LagFit.{LagFit}
use Rattle.grid.specs.Grid.{candidate, keep_of, kept_to, low_end, pick_end, high_end, bracket_of, kept_at}
use Rattle.grid.specs.Steps.{kept_below, against, table_of, KeptTable}
use Rattle.grid.proofs.Keeps.{keeps_first}

pub table_at : (kept : ℕ → Option LagFit) (s : ℕ) → s < step_count → get_or (table_of kept) s None ≡ kept s
table_at kept s p = filled (λ s l. kept s) (replicate step_count None) None step_count s (rw length-replicate (omega arith)) p

pub table_long : (kept : ℕ → Option LagFit) → length (table_of kept) ≡ step_count
table_long kept = length_fill (λ s l. kept s) (replicate step_count None) step_count ∙ length-replicate {A = Option LagFit} step_count None

-- the table of the grid has what its rule says: each step keeps the first of the least residual
pub table_first : (dt : Float) (fit : ℕ → Float → Option GainFit) (kept : List (Option LagFit)) → kept ≡ table_of (kept_at dt fit) → KeptTable dt fit kept
unfolding kept_at
table_first dt fit kept e = record { is = e; first = λ s p. rw (e, table_at (kept_at dt fit) s p) (keeps_first _ (suc lag_count)) }

-- one more pole against a table is a table, step by step
table_against : (b : Bracket) (fits : List (Option GainFit)) (kept next : ℕ → Option LagFit)
    → ((s : ℕ) → s < step_count → keep_of (kept s) (candidate b (get_or fits s None)) ≡ next s)
    → fill (against b fits) (table_of kept) step_count ≡ table_of next
table_against b fits kept next e =
    let f = against b fits in let l = table_of kept in
    let long : length (fill f l step_count) ≡ step_count = length_fill f l step_count ∙ table_long kept in
    ext_get_or None (fill f l step_count) (table_of next) (long ∙ sym (table_long next)) (λ s p.
    let h : s < step_count = rw long at p in
    filled f l None step_count s (rw (table_long kept) (omega arith)) h
    ∙ ap (λ (k : Option LagFit). keep_of k (candidate b (get_or fits s None))) (unfilled f l None s s (omega arith) ∙ table_at kept s h)
    ∙ e s h ∙ sym (table_at next s h))

-- the pole above, by its place
above : (pole : ℕ → Float) (last i : ℕ) → i ≤ last → high_end pole last i ≡ pole (min (i + 1) last)
above pole last i h = go (ltb i last) refl
  where
    go : (b : Bool) → ltb i last ≡ b → pick_end b (pole (i + 1)) (pole i) ≡ pole (min (i + 1) last)
    go true e = let z : i + 1 ≡ min (i + 1) last = omega (arith, ltb-true i last e) in ap pole z
    go false e = let z : i ≡ min (i + 1) last = omega (arith, ltb-false i last e) in ap pole z

-- a pole by its place, read as at most the last
abbrev pub up_to : Float → ℕ → Float
up_to dt i = pole_of dt (min i lag_count)

at_place : (dt p : Float) (i k : ℕ) → i ≤ lag_count → k ≡ i → p ≡ up_to dt k → p ≡ pole_of dt i
at_place dt p i k h e q = let z : min k lag_count ≡ i = omega arith in q ∙ ap (pole_of dt) z

-- the pole above pole i, where p is that of the next place
is_above : (dt p : Float) (i k : ℕ) → i ≤ lag_count → k ≡ i + 1 → p ≡ up_to dt k → p ≡ high_end (pole_of dt) lag_count i
is_above dt p i k h e q = q ∙ ap (up_to dt) e ∙ sym (above (pole_of dt) lag_count i h)

-- three poles from place 3·i on, the pole before them and the one above them
pub record Poles (dt : Float) (i : ℕ) (p₀ p₁ p₂ low high : Float) : Type 0 where
  pub first : p₀ ≡ up_to dt (i * 3)
  pub second : p₁ ≡ up_to dt (i * 3 + 1)
  pub third : p₂ ≡ up_to dt (i * 3 + 2)
  pub below : low ≡ low_end (pole_of dt) (i * 3)
  pub above : high ≡ up_to dt (i * 3 + 3)

-- the brackets around them
abbrev pub brackets : (p₀ p₁ p₂ low high : Float) → List Bracket
brackets p₀ p₁ p₂ low high = record { pole = p₀; low = low; high = p₁ } ∷ record { pole = p₁; low = p₀; high = p₂ } ∷ record { pole = p₂; low = p₁; high = high } ∷ []

bracket_at : (dt p low high : Float) (i k : ℕ) → i ≤ lag_count → k ≡ i + 1 → p ≡ up_to dt i → low ≡ low_end (pole_of dt) i → high ≡ up_to dt k
    → record { pole = p; low = low; high = high } ≡ bracket_of (pole_of dt) lag_count i
bracket_at dt p low high i k h e a b c = λ j. record { pole = at_place dt p i i h refl a j; low = b j; high = is_above dt high i k h e c j }

module _ (dt : Float) (i : ℕ) (p₀ p₁ p₂ low high : Float) (poles : Poles dt i p₀ p₁ p₂ low high) (z : i < 43) (d : Bracket) where
  pub bracket_is : (q : ℕ) → q < 3 → get_or (brackets p₀ p₁ p₂ low high) q d ≡ bracket_of (pole_of dt) lag_count (i * 3 + q)
  unfolding low_end
  bracket_is zero h =
      let e : i * 3 + 0 ≡ i * 3 = omega arith in
      rw e (bracket_at dt p₀ low p₁ (i * 3) (i * 3 + 1) (omega arith) refl poles.first poles.below poles.second)
  bracket_is (suc zero) h =
      let e : i * 3 + 1 ≡ suc (i * 3) = omega arith in
      bracket_at dt p₁ p₀ p₂ (i * 3 + 1) (i * 3 + 2) (omega arith) (omega arith) poles.second (rw e (at_place dt p₀ (i * 3) (i * 3) (omega arith) refl poles.first)) poles.third
  bracket_is (suc (suc zero)) h =
      let e : i * 3 + 2 ≡ suc (i * 3 + 1) = omega arith in
      bracket_at dt p₂ p₁ high (i * 3 + 2) (i * 3 + 3) (omega arith) (omega arith) poles.third (rw e (at_place dt p₁ (i * 3 + 1) (i * 3 + 1) (omega arith) refl poles.second)) poles.above
  bracket_is (suc (suc (suc q))) h = absurd (omega arith)

  pub pole_is : (q : ℕ) → q < 3 → at (p₀ ∷ p₁ ∷ p₂ ∷ []) q ≡ (get_or (brackets p₀ p₁ p₂ low high) q d).pole
  pole_is zero h = refl
  pole_is (suc zero) h = refl
  pole_is (suc (suc zero)) h = refl
  pole_is (suc (suc (suc q))) h = absurd (omega arith)

module _ (dt : Float) (fit : ℕ → Float → Option GainFit) where
  -- what one more pole leaves of the table
  pub pole_more : (i : ℕ) (fits : List (Option GainFit)) (b : Bracket) (kept : List (Option LagFit))
      → b ≡ bracket_of (pole_of dt) lag_count i → fits ≡ step_fits fit b.pole → kept ≡ table_of (kept_below dt fit i)
      → fill (against b fits) kept step_count ≡ table_of (kept_below dt fit (suc i))
  unfolding kept_to
  pole_more i fits b kept p f k =
      rw k (table_against b fits _ _ (λ s y.
      let e : get_or fits s None ≡ fit s b.pole =
      ap (λ (v : List (Option GainFit)). get_or v s None) f ∙ filled (λ s l. fit s b.pole) (replicate step_count None) None step_count s (rw length-replicate (omega arith)) y in
      rw (e, p) refl))
