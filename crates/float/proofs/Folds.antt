-- A fold over the first n of a list is what a recursion over n says, where each step of the one is a step of the other.
use Rattle.std.proofs.Common.{◌≡◌, ℕ, zero, suc, ◌<◌, ◌≤◌, List, [], ◌∷◌, length, get_or, take, sym, arith}
use lib.Seq.{take-suc, take-length}
use Rattle.std.specs.List.{fold}
use Rattle.std.proofs.lemmas.List.Sums.{fold-append}

module _ {S A : Type 0} (f : S → A → S) (s : S) (l : List A) (d : A) (r : ℕ → S) (first : r zero ≡ s) where
  pub fold_take : (n : ℕ) → n ≤ length l → ((k : ℕ) → k < n → r (suc k) ≡ f (r k) (get_or l k d)) → fold f s (take n l) ≡ r n
  fold_take zero h step = sym first
  fold_take (suc n) h step =
      let u : n < length l = omega arith in
      let v : n ≤ length l = omega arith in
      let e : n < suc n = omega arith in
      rw (take-suc l n d, fold-append f s (take n l) (get_or l n d ∷ []), fold_take n v (λ k p. step k (omega arith))) (sym (step n e))

  pub fold_is : (n : ℕ) → length l ≡ n → ((k : ℕ) → k < n → r (suc k) ≡ f (r k) (get_or l k d)) → fold f s l ≡ r n
  fold_is n long step =
      let all : take n l ≡ l = rw (← long) (take-length l) in
      let h : n ≤ length l = omega arith in
      rw all at (fold_take n h step)
