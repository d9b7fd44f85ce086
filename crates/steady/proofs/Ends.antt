-- One call more at the end of a list: its number comes last, and it stays in the list unless 10 turned it back. Once for anything that steps.
use mathlib.Core.Path.{◌≡◌, refl, ap}
use Rattle.std.specs.Prelude.{ℕ, suc, Bool, true, false, cond, eqb, List, [], ◌∷◌, ◌++◌, length, Float}
use mathlib.Core.List.{foldl-append}
use native.Mathlib.Omega.{arith}
use Rattle.steady.specs.Guarded.{Guarded, without, number_in, next_in, after_in, numbers_in}

module _ {S C : Type 0} (runs : S → Bool) (dt_of : C → Float) (number : S → C → ℕ) (next : S → C → S) where
  pub numbers_more : (y : C) (cs : List C) (g : Guarded S)
      → numbers_in runs dt_of number next g (cs ++ (y ∷ [])) ≡ numbers_in runs dt_of number next g cs ++ (number_in runs dt_of number next (after_in runs dt_of number next g cs) y ∷ [])
  unfolding numbers_in
  numbers_more y [] g = refl
  numbers_more y (c ∷ cs) g = ap (λ (l : List ℕ). number_in runs dt_of number next g c ∷ l) (numbers_more y cs (next_in runs dt_of number next g c))

  pub after_more : (y : C) (cs : List C) (g : Guarded S) → after_in runs dt_of number next g (cs ++ (y ∷ [])) ≡ next_in runs dt_of number next (after_in runs dt_of number next g cs) y
  after_more y cs g = foldl-append (next_in runs dt_of number next) g cs (y ∷ [])

  pub length_numbers : (cs : List C) (g : Guarded S) → length (numbers_in runs dt_of number next g cs) ≡ length cs
  unfolding numbers_in
  length_numbers [] g = refl
  length_numbers (c ∷ cs) g = ap suc (length_numbers cs (next_in runs dt_of number next g c))

pick : {A : Type 0} (b : Bool) (x : A) (l m : List A) → cond b (l ++ m) (x ∷ (l ++ m)) ≡ cond b l (x ∷ l) ++ m
pick true x l m = refl
pick false x l m = refl

-- one more at the end stays where its number is not n
pub kept_end : {A : Type 0} (n k : ℕ) (x : A) (ks : List ℕ) (xs : List A) → length ks ≡ length xs
    → without n (ks ++ (k ∷ [])) (xs ++ (x ∷ [])) ≡ without n ks xs ++ cond (eqb k n) [] (x ∷ [])
unfolding without
kept_end n k x [] [] h = refl
kept_end n k x [] (z ∷ xs) h = absurd (omega (arith, h))
kept_end n k x (j ∷ ks) [] h = absurd (omega (arith, h))
kept_end n k x (j ∷ ks) (z ∷ xs) h =
    let e : length ks ≡ length xs = omega (arith, h) in
    rw (kept_end n k x ks xs e) (pick (eqb j n) z (without n ks xs) (cond (eqb k n) [] (x ∷ [])))
