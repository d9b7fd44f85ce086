-- Anything that steps behind the test of its calls' dt: a probe, an account, the probes of two axes, their accounts.
-- S is what steps, C its calls: whether it runs, a call's dt, the number that turns a call back by its own rules, 0 if none, and what a call leaves.
use Rattle.std.specs.Prelude.{ℕ, zero, suc, Bool, true, false, not, ◌&&◌, cond, List, [], ◌∷◌, eqb, Float}
use mathlib.Core.List.{foldl}
use Rattle.steady.specs.declared.Band.{Band}
use Rattle.steady.specs.Band.{turns_back, uneven, keeps}

pub record Guarded (S : Type 0) : Type 0 where
  pub inner : S
  pub band : Band

-- the band after a call, by the number that turns it back and by whether what stepped ran
unfoldable pub band_after : ℕ → Bool → Band → Float → Band
band_after (suc n) running band dt = band
band_after zero false band dt = band
band_after zero true band dt = keeps band dt

-- a list without those that have the number n beside them
unfoldable pub without : {A : Type 0} → ℕ → List ℕ → List A → List A
without n [] xs = []
without n (k ∷ ks) [] = []
without n (k ∷ ks) (x ∷ xs) = let rest = without n ks xs in cond (eqb k n) rest (x ∷ rest)

-- the band that a list of accepted calls leaves
unfoldable pub band_of : {C : Type 0} → (C → Float) → Band → List C → Band
band_of dt_of band [] = band
band_of dt_of band (c ∷ cs) = keeps band (dt_of c)

-- whether each dt of a list lies in a band
unfoldable pub lie : {C : Type 0} → (C → Float) → Band → List C → Bool
lie dt_of band [] = true
lie dt_of band (c ∷ cs) = not (uneven band (dt_of c)) && lie dt_of band cs

module _ {S C : Type 0} (runs : S → Bool) (dt_of : C → Float) (number : S → C → ℕ) (next : S → C → S) where
  -- 10, or the number of its own rules
  unfoldable pub number_in : Guarded S → C → ℕ
  number_in g c = cond (turns_back g.band (runs g.inner) (dt_of c)) 10 (number g.inner c)

  -- the call itself, after which the band may have its first dt
  abbrev pub passed : Guarded S → C → Guarded S
  passed g c = record { inner = next g.inner c; band = band_after (number g.inner c) (runs g.inner) g.band (dt_of c) }

  -- "changes in nothing on them": a call that 10 turns back leaves all as it was
  unfoldable pub next_in : Guarded S → C → Guarded S
  next_in g c = cond (turns_back g.band (runs g.inner) (dt_of c)) g (passed g c)

  abbrev pub after_in : Guarded S → List C → Guarded S
  after_in g calls = foldl next_in g calls

  -- the number of each call of a list
  unfoldable pub numbers_in : Guarded S → List C → List ℕ
  numbers_in g [] = []
  numbers_in g (c ∷ cs) = number_in g c ∷ numbers_in (next_in g c) cs

  -- the calls without those that 10 turned back
  abbrev pub even_of : Guarded S → List C → List C
  even_of g calls = without 10 (numbers_in g calls) calls

  -- the calls accepted while running
  unfoldable pub heard_one : ℕ → Bool → C → List C → List C
  heard_one (suc n) running c rest = rest
  heard_one zero false c rest = rest
  heard_one zero true c rest = c ∷ rest

  unfoldable pub heard : Guarded S → List C → List C
  heard g [] = []
  heard g (c ∷ cs) = heard_one (number_in g c) (runs g.inner) c (heard (next_in g c) cs)
