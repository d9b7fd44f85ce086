-- What is read and written in the lent arrays is what the list of samples says.
use Prim.Native.Nat.{ℕ, zero, suc, ◌≤◌, ◌<◌}
use mathlib.Core.Path.{◌≡◌, refl}
use mathlib.Core.Bool.{Bool, true, false, cond}
use mathlib.Core.List.{List, [], ◌∷◌, ◌++◌}
use native.Mathlib.Omega.{arith}
use borrow.Author.Tests.{lt-ltb, le-ltb}
use lib.Dec.{ltb, ltb→lt, nltb→le}
use lib.ListN.{length, take, set}
use lib.Seq.{length-take-le, take-suc, take-suc-set}
use lib.Ieee.{Float, nan, binary32, add}
use Rattle.float.specs.Values.{zero32}
use Rattle.float.specs.Series.{at}
use Rattle.window.specs.declared.Window.{Window}
use Rattle.window.specs.Samples.{Samples, capacity, last_of, push, hold, bad, store}
use Rattle.window.specs.Arrays.{stored_of, samples_in, previous_at, hold_at, put_at, next_window}
use Rattle.window.specs.Lent.{Lent, lent, Whole, samples_of, put_sample}

-- ---- one tick stored
module _ (w : Window) (dt : Float) where
  pub next_roomy : stored_of w < capacity → next_window w dt ≡ record { len = suc (stored_of w); duration_s = add binary32 w.duration_s dt }
  unfolding next_window
  next_roomy h = simp (lt-ltb (stored_of w) capacity h)

  pub next_full : capacity ≤ stored_of w → next_window w dt ≡ w
  unfolding next_window
  next_full h = simp (le-ltb (stored_of w) capacity h)

module _ {A : Type 0} (n : ℕ) (l : List A) (x : A) where
  pub put_roomy : n < capacity → put_at n l x ≡ set l n x
  unfolding put_at
  put_roomy h = simp (lt-ltb n capacity h)

  pub put_full : capacity ≤ n → put_at n l x ≡ l
  unfolding put_at
  put_full h = simp (le-ltb n capacity h)

-- four arrays, one by one
pub arrays_same : {a a' b b' c c' : List Float} {d d' : List Bool} → a ≡ a' → b ≡ b' → c ≡ c' → d ≡ d' → lent a b c d ≡ lent a' b' c' d'
arrays_same p q r s = cc

-- the samples after a tick are those before it, with the tick stored
last_of_more : {A : Type 0} (d : A) (xs : List A) (x : A) → last_of d (xs ++ (x ∷ [])) ≡ x
unfolding last_of
last_of_more d [] x = refl
last_of_more d (y ∷ xs) x = last_of_more y xs x

last_stored : (values : List Float) (n : ℕ) → n ≤ length values → last_of zero32 (take n values) ≡ previous_at values n
unfolding last_of previous_at
last_stored values zero h = refl
last_stored values (suc n) h = rw (take-suc values n nan) (last_of_more zero32 (take n values) (at values n))

holds : (values : List Float) (n : ℕ) (x : Float) → n ≤ length values → hold (take n values) x ≡ hold_at values n x
unfolding hold hold_at
holds values n x h = rw (last_stored values n h)

pushes : {A : Type 0} (n : ℕ) (l : List A) (x : A) → n < length l → n < capacity → take (suc n) (put_at n l x) ≡ push true (take n l) x
unfolding push
pushes n l x h r = rw (put_roomy n l x r) (take-suc-set l n x h)

full_stays : {A : Type 0} (n : ℕ) (l : List A) (x y : A) → capacity ≤ n → take n (put_at n l x) ≡ push false (take n l) y
unfolding push
full_stays n l x y h = rw (put_full n l x h)

same : {a a' b b' c c' : List Float} {d d' : List Bool} {e e' : Float} → a ≡ a' → b ≡ b' → c ≡ c' → d ≡ d' → e ≡ e'
    → ◌≡◌ {A = Samples} (record { rates = a; moments = b; offsets = c; marks = d; duration = e }) (record { rates = a'; moments = b'; offsets = c'; marks = d'; duration = e' })
same p q r s t = cc

-- The samples in the arrays after a tick are those before it, with the tick stored; n is how many were stored.
module _ (w : Window) (l : Lent) (dt rate moment offset : Float) where
  abbrev n : ℕ
  n = stored_of w

  abbrev Stored : Bool → Type 0
  Stored b =
      samples_of (next_window w dt) (put_sample w l rate moment offset)
      ≡ record {
        rates = push b (take n l.rates) (hold (take n l.rates) rate);
        moments = push b (take n l.moments) (hold (take n l.moments) moment);
        offsets = push b (take n l.offsets) offset;
        marks = push b (take n l.marks) (bad rate moment);
        duration = cond b (add binary32 w.duration_s dt) w.duration_s;
      }

  roomy : n < capacity → Whole l → Stored true
  unfolding samples_in put_sample
  roomy r h =
      let next : stored_of (next_window w dt) ≡ suc n = rw (next_roomy w dt r) (unfold stored_of in omega arith) in
      rw (next, next_roomy w dt r, holds l.rates n rate (omega arith), holds l.moments n moment (omega arith))
      (same (pushes n l.rates (hold_at l.rates n rate) (omega arith) r) (pushes n l.moments (hold_at l.moments n moment) (omega arith) r) (pushes n l.offsets offset (omega arith) r)
      (pushes n l.marks (bad rate moment) (omega arith) r) refl)

  full : capacity ≤ n → Stored false
  unfolding samples_in put_sample
  full f =
      rw (next_full w dt f)
      (same (full_stays n l.rates _ _ f) (full_stays n l.moments _ _ f) (full_stays n l.offsets _ _ f) (full_stays n l.marks _ _ f) refl)

  pub ticked : Whole l → samples_of (next_window w dt) (put_sample w l rate moment offset) ≡ store (samples_of w l) dt rate moment offset
  unfolding store samples_in
  ticked h =
      let inside : n ≤ length l.rates = unfold stored_of in omega arith in
      rw (length-take-le n l.rates inside) (go (ltb n capacity) refl)
    where
      go : (b : Bool) → ltb n capacity ≡ b → Stored b
      go true e = roomy (ltb→lt n capacity (rw e tt)) h
      go false e = full (nltb→le n capacity (rw e tt))
