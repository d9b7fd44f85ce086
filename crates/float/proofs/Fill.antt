-- A list that is filled entry by entry: its length, an entry once it is set, an entry that is not reached yet, and one entry more.
-- A list whose first entries alone are filled is that filling with the rest behind it.
use Rattle.std.proofs.Common.{◌≡◌, ℕ, zero, suc, ◌+◌, ◌-◌, ◌<◌, ◌≤◌, List, ◌++◌, length, get_or, take, drop, set, refl, sym, ap, ◌∙◌, arith, length-set, length-take-le, get_or-set_other, get_or-set_same}
use Rattle.std.proofs.lemmas.List.{set-append_left, take-append-drop}
use Rattle.float.specs.Series.{fill}

module _ {A : Type 0} (f : ℕ → List A → A) (l : List A) where
  pub length_fill : (n : ℕ) → length (fill f l n) ≡ length l
  unfolding fill
  length_fill zero = refl
  length_fill (suc n) = rw length-set (length_fill n)

  -- an entry that is set stays as it is
  pub fill_keeps : (z : A) (d m n : ℕ) → m < n → get_or (fill f l (d + n)) m z ≡ get_or (fill f l n) m z
  unfolding fill
  fill_keeps z zero m n h = let e : 0 + n ≡ n = omega arith in rw e
  fill_keeps z (suc d) m n h =
      let e : suc d + n ≡ suc (d + n) = omega arith in
      rw e (get_or-set_other (fill f l (d + n)) (d + n) m _ z (λ q. omega arith) ∙ fill_keeps z d m n h)

  -- each entry is made from the list as it then is
  pub fill_at : (z : A) (d n : ℕ) → n < length l → get_or (fill f l (d + suc n)) n z ≡ f n (fill f l n)
  unfolding fill
  fill_at z d n h =
      let s : n < suc n = omega arith in
      let t : n < length (fill f l n) = rw (length_fill n) h in
      fill_keeps z d n (suc n) s ∙ get_or-set_same (fill f l n) n _ z t

  pub filled : (z : A) (n j : ℕ) → n ≤ length l → j < n → get_or (fill f l n) j z ≡ f j (fill f l j)
  filled z n j h p =
      let e : n ≡ n - suc j + suc j = omega arith in
      ap (λ (m : ℕ). get_or (fill f l m) j z) e ∙ fill_at z (n - suc j) j (omega arith)

  -- an entry past those that are set is as it was
  pub unfilled : (z : A) (n j : ℕ) → n ≤ j → get_or (fill f l n) j z ≡ get_or l j z
  unfolding fill
  unfilled z zero j h = refl
  unfilled z (suc n) j h =
      let t : n ≤ j = omega arith in
      get_or-set_other (fill f l n) n j _ z (λ q. omega arith) ∙ unfilled z n j t

-- an entry more
pub fill_more : {A : Type 0} (f : ℕ → List A → A) (l k : List A) (n n' : ℕ) (v : A) → k ≡ fill f l n → v ≡ f n k → n' ≡ suc n → set k n v ≡ fill f l n'
unfolding fill
fill_more f l k n n' v e h p = rw (p, h, e) refl

-- two fills of one list are one, where each entry is the same whatever the list is by then
pub fill_same : {A : Type 0} (f g : ℕ → List A → A) (l : List A) (n : ℕ) → ((j : ℕ) (k : List A) → j < n → f j k ≡ g j k) → fill f l n ≡ fill g l n
unfolding fill
fill_same f g l zero h = refl
fill_same f g l (suc n) h =
    let e = fill_same f g l n (λ j k p. h j k (omega arith)) in
    rw (e, h n (fill g l n) (omega arith)) refl

module _ {A : Type 0} (f : ℕ → A) where
  fill_append : (xs ys : List A) (n : ℕ) → n ≤ length xs → fill (λ k l. f k) (xs ++ ys) n ≡ fill (λ k l. f k) xs n ++ ys
  unfolding fill
  fill_append xs ys zero h = refl
  fill_append xs ys (suc n) h =
      rw (fill_append xs ys n (omega arith)) (set-append_left (fill (λ k l. f k) xs n) ys n (f n) (rw (length_fill (λ k l. f k) xs n) h))

  pub fill_front : (l : List A) (n : ℕ) → n ≤ length l → fill (λ k l. f k) (take n l) n ++ drop n l ≡ fill (λ k l. f k) l n
  fill_front l n h =
      let e : n ≤ length (take n l) = rw (length-take-le n l h) (omega arith) in
      sym (fill_append (take n l) (drop n l) n e) ∙ rw (take-append-drop n l) refl
