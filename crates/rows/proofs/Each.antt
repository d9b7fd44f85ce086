-- Laws of `each`: how it takes one more entry, that two passes are one, and what stands at a place.
use Prim.Native.Nat.{ℕ, zero, suc, ◌+◌, ◌<◌, ◌≤◌}
use mathlib.Core.Path.{◌≡◌, refl, sym, ap, fun_ext}
use mathlib.Core.List.{List, [], ◌∷◌}
use native.Mathlib.Omega.{arith}
use native.Mathlib.Numerals.{add-one}
use lib.ListN.{replicate, set, get_or}
use Rattle.float.specs.Series.{fill}
use Rattle.rows.specs.Rows.{each}

module _ {A : Type 0} where
  -- one more entry
  pub each_suc : (z : A) (n : ℕ) (f : ℕ → A → A) (l : List A) → each (suc n) f l ≡ set (each n f l) n (f n (get_or (each n f l) n z))
  unfolding each
  each_suc z zero f [] = refl
  each_suc z zero f (x ∷ l) = refl
  each_suc z (suc n) f [] = refl
  each_suc z (suc n) f (x ∷ l) = ap (λ (t : List A). f zero x ∷ t) (each_suc z n (λ n. f (suc n)) l)

  -- a list whose first n entries are done, and its entry n set by the function: a loop does the entries in this way
  pub each_next : (z : A) (n : ℕ) (f : ℕ → A → A) (l : List A) {done : List A} {v : A} → done ≡ each n f l → v ≡ f n (get_or done n z) → set done n v ≡ each (n + 1) f l
  each_next z n f l e g = rw (add-one, each_suc z, g, e)

  pub fill_each : (z : A) (n : ℕ) (f : ℕ → A → A) (l : List A) → fill (λ n m. f n (get_or m n z)) l n ≡ each n f l
  unfolding fill each
  fill_each z zero f l = refl
  fill_each z (suc n) f l = rw (fill_each z n f l) (sym (each_suc z n f l))

  pub each_each : (n : ℕ) (g f : ℕ → A → A) (l : List A) → each n g (each n f l) ≡ each n (λ n x. g n (f n x)) l
  unfolding each
  each_each zero g f l = refl
  each_each (suc n) g f [] = refl
  each_each (suc n) g f (x ∷ l) = ap (λ (t : List A). g zero (f zero x) ∷ t) (each_each n (λ n. g (suc n)) (λ n. f (suc n)) l)

  pub each_same : (n : ℕ) (l : List A) → each n (λ n x. x) l ≡ l
  unfolding each
  each_same zero l = refl
  each_same (suc n) [] = refl
  each_same (suc n) (x ∷ l) = ap (λ (t : List A). x ∷ t) (each_same n l)

  -- two functions that agree give one list
  pub each_by : (n : ℕ) (f g : ℕ → A → A) (l : List A) → ((i : ℕ) (x : A) → f i x ≡ g i x) → each n f l ≡ each n g l
  each_by n f g l e = ap (λ (h : ℕ → A → A). each n h l) (fun_ext (λ i. fun_ext (e i)))

  -- on a list that is all alike, two functions that agree on that one value give one list
  pub each_alike : (n m : ℕ) (f g : ℕ → A → A) (z : A) → ((i : ℕ) → i < n → f i z ≡ g i z) → each n f (replicate m z) ≡ each n g (replicate m z)
  unfolding each
  each_alike zero m f g z e = refl
  each_alike (suc n) zero f g z e = refl
  each_alike (suc n) (suc m) f g z e =
      rw (e zero (omega arith), each_alike n m (λ i. f (suc i)) (λ i. g (suc i)) z (λ i h. e (suc i) (omega arith)))

  pub each_at : (n m : ℕ) (f : ℕ → A → A) (z d : A) (j : ℕ) → n ≤ m → j < n → get_or (each n f (replicate m z)) j d ≡ f j z
  unfolding each
  each_at zero m f z d j h p = absurd (omega arith)
  each_at (suc n) zero f z d j h p = absurd (omega arith)
  each_at (suc n) (suc m) f z d zero h p = refl
  each_at (suc n) (suc m) f z d (suc j) h p = each_at n m (λ i. f (suc i)) z d j (omega arith) (omega arith)
