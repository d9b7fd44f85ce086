-- A delay's sums from the shared ones are its sums over the window: each entry is the same series of products, and a product's factors commute exactly.
use Prim.Native.Nat.{ℕ, zero, suc, ◌+◌, ◌-◌, ◌<◌, ◌≤◌}
use mathlib.Core.Path.{◌≡◌, refl, sym, ap, ◌∙◌, fun_ext}
use mathlib.Core.Bool.{Bool, true, false, cond}
use mathlib.Core.List.{List, []}
use native.Mathlib.Omega.{arith}
use borrow.Author.Tests.{lt-ltb, le-ltb, ltb-true, ltb-false, leb-true, leb-false}
use lib.Dec.{ltb, leb}
use lib.ListN.{replicate}
use lib.Ieee.{Float, nan, binary32, mul}
use Rattle.float.specs.Values.{zero32}
use Rattle.float.specs.Series.{at}
use Rattle.float.proofs.Fill.{filled}
use Rattle.float.proofs.Products.{commutes}
use Rattle.rows.specs.Rows.{target, regressors, product, projection, each, sum_rows, sums_by, window_sums, no_sums}
use Rattle.rows.proofs.Each.{fill_each, each_alike, each_at}
use Rattle.rows.proofs.Together.{same_sums}
use Rattle.shared_sums.specs.Shared.{common_terms, last_moments, summed, shared_sums}
use Rattle.delay_sums.specs.Delays.{sum_at, cross_sum, place_of, against, delay_sums}

sum_by : (marks : List Bool) (len : ℕ) (f g : ℕ → Float) → ((k : ℕ) → f k ≡ g k) → sum_rows marks len f zero32 ≡ sum_rows marks len g zero32
sum_by marks len f g e = ap (λ (h : ℕ → Float). sum_rows marks len h zero32) (fun_ext e)

summed_at : (marks : List Bool) (len m w : ℕ) (n : ℕ → ℕ) (f : ℕ → ℕ → ℕ → Float) (a b : ℕ) → a < m → b < n a → n a ≤ w
    → sum_at (summed marks len m w n f) a b ≡ sum_rows marks len (f a b) zero32
unfolding summed
summed_at marks len m w n f a b h g l =
    ap (λ (t : List Float). at t b) (each_at m m (λ a l. each (n a) (λ b s. sum_rows marks len (f a b) s) l) (replicate w zero32) [] a (omega arith) h)
    ∙ each_at (n a) w (λ b s. sum_rows marks len (f a b) s) zero32 nan b l g

moment_at : (moments : List Float) (k j : ℕ) → j < 12 → at (last_moments moments k) j ≡ at moments (k - j)
unfolding last_moments
moment_at moments k j h = filled _ _ nan 12 j (omega arith) h

module _ (rates moments : List Float) (marks : List Bool) (d len : ℕ) (p : 1 ≤ d) (q : d ≤ 10) where
  -- a row's seven, by place
  unfoldable series : ℕ → ℕ → Float
  series a k = cond (ltb a 4) (at (common_terms rates k) a) (at moments (k - (d - 1 + (a - 4))))

  in_common : (a k : ℕ) → a < 4 → series a k ≡ at (common_terms rates k) a
  unfolding series
  in_common a k h = simp (lt-ltb a 4 h)

  in_moments : (a k : ℕ) → 4 ≤ a → series a k ≡ at moments (k - (d - 1 + (a - 4)))
  unfolding series
  in_moments a k h = simp (le-ltb a 4 h)

  unfoldable total : ℕ → ℕ → Float
  total a b = sum_rows marks len (λ k. mul binary32 (series a k) (series b k)) zero32

  total_comm : (a b : ℕ) → total a b ≡ total b a
  unfolding total
  total_comm a b = sum_by marks len _ _ (λ k. commutes binary32 (series a k) (series b k))

  common_is : (a b : ℕ) → a < 4 → b < 4 → sum_at (shared_sums rates moments marks len).common a b ≡ total a b
  unfolding shared_sums total
  common_is a b h g = summed_at marks len 4 4 _ _ a b h g (omega arith) ∙ sum_by marks len _ _ (λ k. sym (rw (in_common a k h, in_common b k g)))

  lagged_is : (a b : ℕ) → a < 4 → 4 ≤ b → b < 7 → sum_at (shared_sums rates moments marks len).lagged a (d - 1 + (b - 4)) ≡ total a b
  unfolding shared_sums total
  lagged_is a b h g u =
      let j : d - 1 + (b - 4) < 12 = omega arith in
      summed_at marks len 4 12 _ _ a (d - 1 + (b - 4)) h j (omega arith)
      ∙ sum_by marks len _ _ (λ k. rw (moment_at moments k (d - 1 + (b - 4)) j) (sym (rw (in_common a k h, in_moments b k g))))

  pairs_is : (a b : ℕ) → 4 ≤ a → a ≤ b → b < 7 → sum_at (shared_sums rates moments marks len).pairs (b - a) (d - 1 + (a - 4)) ≡ total a b
  unfolding shared_sums total
  pairs_is a b h g u =
      let f : 4 ≤ b = omega arith in
      let j : d - 1 + (a - 4) < 12 = omega arith in
      let i : d - 1 + (b - 4) < 12 = omega arith in
      let s : d - 1 + (a - 4) + (b - a) ≡ d - 1 + (b - 4) = omega arith in
      summed_at marks len 3 12 (λ o. 12 - o) _ (b - a) (d - 1 + (a - 4)) (omega arith) (omega arith) (omega arith)
      ∙ sum_by marks len _ _
      (λ k. rw (s, moment_at moments k (d - 1 + (a - 4)) j, moment_at moments k (d - 1 + (b - 4)) i) (sym (rw (in_moments a k h, in_moments b k f))))

  cross_by : (a b : ℕ) → a < 7 → b < 7 → (x y z : Bool) → ltb a 4 ≡ x → ltb b 4 ≡ y → leb a b ≡ z → cross_sum (shared_sums rates moments marks len) d a b ≡ total a b
  unfolding cross_sum
  cross_by a b h g true true z e f i = rw (e, f) (common_is a b (ltb-true a 4 e) (ltb-true b 4 f))
  cross_by a b h g true false z e f i = rw (e, f) (lagged_is a b (ltb-true a 4 e) (ltb-false b 4 f) g)
  cross_by a b h g false true z e f i = rw (e, f) (lagged_is b a (ltb-true b 4 f) (ltb-false a 4 e) h ∙ total_comm b a)
  cross_by a b h g false false true e f i =
      let u = ltb-false a 4 e in
      rw (e, f, i) (pairs_is a b u (leb-true a b i) g)
  cross_by a b h g false false false e f i =
      let u = ltb-false b 4 f in
      let l = leb-false a b i in
      rw (e, f, i) (pairs_is b a u (omega arith) h ∙ total_comm b a)

  cross_is : (a b : ℕ) → a < 7 → b < 7 → cross_sum (shared_sums rates moments marks len) d a b ≡ total a b
  cross_is a b h g = cross_by a b h g (ltb a 4) (ltb b 4) (leb a b) refl refl refl

  term_is : (i k : ℕ) → i < 6 → at (regressors rates moments d k) i ≡ series (place_of i) k
  unfolding regressors series common_terms place_of
  term_is zero k h = refl
  term_is (suc zero) k h = refl
  term_is (suc (suc zero)) k h = let e : k + 1 - d ≡ k - (d - 1 + 0) = omega arith in rw e
  term_is (suc (suc (suc zero))) k h = let e : k - d ≡ k - (d - 1 + 1) = omega arith in rw e
  term_is (suc (suc (suc (suc zero)))) k h = let e : k - 1 - d ≡ k - (d - 1 + 2) = omega arith in rw e
  term_is (suc (suc (suc (suc (suc zero))))) k h = refl
  term_is (suc (suc (suc (suc (suc (suc i)))))) k h = absurd (omega arith)

  target_is : (k : ℕ) → target rates k ≡ series 3 k
  unfolding series common_terms
  target_is k = refl

  place_lt : (i : ℕ) → i < 6 → place_of i < 7
  unfolding place_of
  place_lt zero h = omega arith
  place_lt (suc zero) h = omega arith
  place_lt (suc (suc zero)) h = omega arith
  place_lt (suc (suc (suc zero))) h = omega arith
  place_lt (suc (suc (suc (suc zero)))) h = omega arith
  place_lt (suc (suc (suc (suc (suc zero))))) h = omega arith
  place_lt (suc (suc (suc (suc (suc (suc i)))))) h = absurd (omega arith)

  terms_is : (i j : ℕ) → i < 6 → j < 6 → cross_sum (shared_sums rates moments marks len) d (place_of i) (place_of j)
      ≡ sum_rows marks len (λ k. mul binary32 (at (regressors rates moments d k) i) (at (regressors rates moments d k) j)) zero32
  unfolding total
  terms_is i j h g =
      cross_is (place_of i) (place_of j) (place_lt i h) (place_lt j g)
      ∙ sum_by marks len _ _ (λ k. sym (rw (term_is i k h, term_is j k g)))

  against_target : (i : ℕ) → i < 6 → cross_sum (shared_sums rates moments marks len) d (place_of i) 3
      ≡ sum_rows marks len (λ k. mul binary32 (at (regressors rates moments d k) i) (target rates k)) zero32
  unfolding total
  against_target i h =
      cross_is (place_of i) 3 (place_lt i h) (omega arith)
      ∙ sum_by marks len _ _ (λ k. sym (rw (term_is i k h, target_is k)))

  -- the sums against place b, where those of each term are f's
  against_is : (b : ℕ) (f : ℕ → ℕ → Float) → ((i : ℕ) → i < 6 → cross_sum (shared_sums rates moments marks len) d (place_of i) b ≡ sum_rows marks len (f i) zero32)
      → against (shared_sums rates moments marks len) d b ≡ each 6 (λ i s. sum_rows marks len (f i) s) (replicate 6 zero32)
  unfolding against
  against_is b f e =
      fill_each nan 6 (λ i x. cross_sum (shared_sums rates moments marks len) d (place_of i) b) (replicate 6 zero32)
      ∙ each_alike 6 6 _ _ zero32 e

  pub delay_is : delay_sums (shared_sums rates moments marks len) d ≡ window_sums rates moments marks len d no_sums
  unfolding delay_sums window_sums sums_by no_sums product projection total
  delay_is =
      same_sums _ _
      (fill_each [] 6 (λ j x. against (shared_sums rates moments marks len) d (place_of j)) (replicate 6 (replicate 6 zero32))
      ∙ each_alike 6 6 _ _ (replicate 6 zero32) (λ j h. against_is (place_of j) _ (λ i g. terms_is i j g h)))
      (against_is 3 _ against_target)
      (cross_is 3 3 (omega arith) (omega arith) ∙ sum_by marks len _ _ (λ k. sym (rw (target_is k))))
