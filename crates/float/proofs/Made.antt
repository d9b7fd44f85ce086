-- What an array's `from_fn` gives, where the closure acts as a function: the list that a fill makes.
use Rattle.std.proofs.Common.{◌≡◌, ℕ, zero, suc, ◌+◌, ◌<◌, ◌≤◌, List, length, get_or, refl, sym, ◌∙◌, arith}
use mathlib.Core.Logic.{⊎_elim}
use native.Mathlib.Nat.{eq-or-lt_of_le}
use lib.ListN.{replicate, length-replicate}
use lib.Seq.{ext_get_or}
use denote.Param.Members.{Mut}
use Rattle.std.specs.Array.{IsFromFnResult, IsFromFnResultFrom}
use Rattle.std.specs.Iterator.{ActsAs}
use Rattle.float.specs.Series.{fill}
use Rattle.float.proofs.Fill.{length_fill, filled}

module _ {F B : Type 0} (g : Mut F (ℕ × Unit {0}) B) (f : F) (h : ℕ → B) (acts : ActsAs g f h) where
  each_made : (p : F) (ys : List B) (e : B) (i n j : ℕ) → p ≡ f → IsFromFnResultFrom g p ys i n → i ≤ j → j < i + n → get_or ys j e ≡ h j
  each_made p ys e i zero j same m l u = absurd (omega arith)
  each_made p ys e i (suc n) j same m l u =
      let called = rw same at m.3 in
      let step = acts i m.1 m.0 called in
      ⊎_elim
      (λ (q : i ≡ j). rw (← q, m.2.1 e) step.1)
      (λ (q : i < j). let t : i + 1 ≤ j = omega arith in each_made m.0 ys e (i + 1) n j step.0 m.4 t (omega arith))
      (eq-or-lt_of_le l)

  pub made : (ys l : List B) (n : ℕ) (e : B) → length l ≡ n → IsFromFnResult g f ys n → ys ≡ fill (λ k l. h k) l n
  made ys l n e long m =
      ext_get_or e ys (fill (λ k l. h k) l n) (m.long ∙ sym (length_fill _ l n ∙ long))
      (λ j p.
      let u : j < 0 + n = omega (arith, m.long) in
      let v : n ≤ length l = omega arith in
      let w : j < n = omega (arith, m.long) in
      each_made f ys e 0 n j refl m.each (omega arith) u ∙ sym (filled (λ k l. h k) l e n j v w))

  -- an array that is made anew
  pub made_new : (ys : List B) (n : ℕ) (e : B) → IsFromFnResult g f ys n → ys ≡ fill (λ k l. h k) (replicate n e) n
  made_new ys n e m = made ys (replicate n e) n e (length-replicate n e) m
