-- The account's own counts: its ticks are the calls accepted while running, and its entries as many of them as there is room for.
use Prim.Native.Nat.{ℕ, zero, suc, ◌+◌, min}
use mathlib.Core.Path.{◌≡◌, refl}
use mathlib.Core.Bool.{Bool, true, false, cond}
use mathlib.Core.List.{List, [], ◌∷◌, ◌++◌}
use native.Mathlib.Omega.{arith}
use lib.Dec.{ltb, ltb→lt, nltb→le}
use lib.ListN.{length, length-append}
use Rattle.window.specs.Samples.{capacity}
use Rattle.account.specs.Probe.{Call}
use Rattle.account.specs.Account.{Account, account, next, continue, accept, counted, accepted, turned, one}

-- one more entry where there is room keeps their number at the least of the ticks and the capacity
fills : {A : Type 0} (l : List A) (x : A) (n : ℕ) → length l ≡ min n capacity → length (cond (ltb (length l) capacity) (l ++ (x ∷ [])) l) ≡ min (suc n) capacity
fills l x n h = go (ltb (length l) capacity) refl
  where
    go : (b : Bool) → ltb (length l) capacity ≡ b → length (cond b (l ++ (x ∷ [])) l) ≡ min (suc n) capacity
    go true e = simp length-append (omega (arith, ltb→lt (length l) capacity (rw e tt)))
    go false e = omega (arith, nltb→le (length l) capacity (rw e tt))

ticked : (n : ℕ) (r : Bool) (a : Account) (c : Call) → (continue n r a c).ticks ≡ a.ticks + one n r
unfolding continue one accept counted
ticked (suc n) r a c = omega arith
ticked zero false a c = omega arith
ticked zero true a c = omega arith

pub count : (cs : List Call) (a : Account) → (account a cs).ticks ≡ a.ticks + accepted a cs
unfolding accepted next
count [] a = omega arith
count (c ∷ cs) a = omega (arith, count cs (next a c), ticked (turned a c) a.running a c)

abbrev Full : Account → Type 0
Full a = length a.entries ≡ min a.ticks capacity

filled : (n : ℕ) (r : Bool) (a : Account) (c : Call) → Full a → Full (continue n r a c)
unfolding continue accept counted
filled (suc n) r a c h = h
filled zero false a c h = h
filled zero true a c h = fills a.entries _ a.ticks h

pub full : (cs : List Call) (a : Account) → Full a → Full (account a cs)
unfolding next
full [] a h = h
full (c ∷ cs) a h = full cs (next a c) (filled (turned a c) a.running a c h)
