-- The probe follows the account: after each call it is the picture of the account, with a sweep and offsets of its own.
use Prim.Native.Nat.{ℕ, zero, suc}
use mathlib.Core.Path.{◌≡◌, refl, sym, ap₂, subst}
use mathlib.Core.Bool.{Bool, true, false, not, ◌&&◌, ◌||◌, cond}
use Rattle.std.specs.Prelude.{Option, Some, None}
use mathlib.Core.List.{List, [], ◌∷◌, ◌++◌, map, map-append}
use lib.ListN.{length, length-map}
use lib.Ieee.{Float, binary32, add, lt}
use Rattle.sweep.specs.declared.SquareSweep.{SquareSweep}
use Rattle.sweep.specs.Sweep.{next_sweep}
use Rattle.window.specs.Samples.{Samples, no_samples, push, room, last_of, hold, bad, store}
use Rattle.recorded.specs.declared.Classified.{Classified}
use Rattle.recorded.specs.declared.Classified.TheVariants.{Recorded, Integrated, Unexcited, Saturated}
use Rattle.delay.specs.declared.RateModel.{RateModel}
use Rattle.integrated.specs.Integrated.{fit_integrated}
use Rattle.account.specs.declared.IdentifyConfig.{IdentifyConfig}
use Rattle.account.specs.declared.IdentifyExtension.{IdentifyExtension}
use Rattle.account.specs.Probe.{Call, Probe, Standing, Closing, clock, finished, status_of, stands, takes, extend, close, tick, answer, step, fresh_at, after, replies, number}
use Rattle.account.specs.Account.{Account, Entry, blank, opened, account, entry, counted, Going, is_integrated, judged, ended, accept, continue, next, turned, turned_back, time, rates_of, moments_of, marks_of, account_class}

map_push : {A B : Type 0} (f : A → B) (b : Bool) (l : List A) (x : A) → map f (cond b (l ++ (x ∷ [])) l) ≡ push b (map f l) (f x)
unfolding push
map_push f false l x = refl
map_push f true l x = map-append f l (x ∷ [])

last_map : {A B : Type 0} (f : A → B) (l : List A) (d : A) → last_of (f d) (map f l) ≡ f (last_of d l)
unfolding last_of
last_map f [] d = refl
last_map f (x ∷ l) d = last_map f l x

either : (x y : Bool) → not (x && y) ≡ (not x || not y)
either true y = refl
either false y = refl

-- ---- the picture of an account
abbrev pub samples_of : Account → List Float → Samples
samples_of a o = record { rates = rates_of a; moments = moments_of a; offsets = o; marks = marks_of a; duration = a.duration }

abbrev pub stands_of : Bool → Account → Standing
stands_of r a = stands r a.elapsed (rates_of a) (moments_of a) (marks_of a) a.duration

abbrev pub probe_of : Account → SquareSweep → List Float → Probe
probe_of a s o = record { ticks = a.ticks; samples = samples_of a o; end = a.end; unused = a.unused; sweep = s; standing = stands_of a.running a }

-- what the window stores is the account's next entry
stored : (a : Account) (c : Call) (o : List Float) (x : Float)
    → store (samples_of a o) c.dt c.rate c.moment x ≡ samples_of (counted a c) (push (room (length a.entries)) o x)
unfolding store counted entry hold bad
stored a c o x =
    simp (length-map, map_push, hold, bad, either, last_map (λ (e : Entry). e.rate) a.entries blank, last_map (λ (e : Entry). e.moment) a.entries blank)

-- ---- an ended probe has no clock
fit_clock : (f : Option RateModel) → clock (status_of f) ≡ None
unfolding clock
fit_clock None = refl
fit_clock (Some m) = refl

end_clock : (x : Classified) (rates moments : List Float) (d : Float) → clock (finished x rates moments d).status ≡ None
unfolding clock finished
end_clock (Recorded m) rates moments d = refl
end_clock Integrated rates moments d = fit_clock (fit_integrated rates moments d).model
end_clock Unexcited rates moments d = refl
end_clock Saturated rates moments d = refl

pub clocks : (r : Bool) (a : Account) → clock (stands_of r a).status ≡ time r a
unfolding clock stands time
clocks true a = refl
clocks false a = end_clock (account_class a) (rates_of a) (moments_of a) a.duration

-- ---- the end of a tick decides what the account decides, and the sweep is its own
module _ (a : Account) (o : List Float) (s : SquareSweep) where
  abbrev Agrees : Closing → Going → Type 0
  Agrees z g = z ≡ record { end = g.end; unused = g.unused; sweep = z.sweep; standing = stands_of g.running a }

  judges : (asked : Bool) (x : Classified) (u : Option IdentifyExtension)
      → Agrees (extend a.elapsed (samples_of a o) (takes asked x u) a.end u s) (judged (asked || is_integrated x) u a)
  unfolding extend takes judged is_integrated
  judges true x (Some e) = refl
  judges true x None = refl
  judges false Integrated (Some e) = refl
  judges false Integrated None = refl
  judges false (Recorded m) u = refl
  judges false Unexcited u = refl
  judges false Saturated u = refl

  closes : (asked r : Bool) → Agrees (close a.elapsed (samples_of a o) asked r a.end a.unused s) (ended asked r a)
  unfolding close ended
  closes asked true = refl
  closes asked false = judges asked (account_class a) a.unused

-- ---- one call
abbrev pub Follows : Probe → Account → Type 0
Follows p a = p ≡ probe_of a p.sweep p.samples.offsets

pub ticks : (a : Account) (s : SquareSweep) (o : List Float) (c : Call) → Follows (tick a.elapsed (probe_of a s o) c).probe (accept a c)
unfolding tick accept counted
ticks a s o c =
    let now = add binary32 a.elapsed c.dt in
    let w = next_sweep s c.dt now in
    rw (stored a c o w.offset, closes (counted a c) (push (room (length a.entries)) o w.offset) w.sweep c.asked (lt now a.end))

answers : (n : ℕ) (r : Bool) (a : Account) (s : SquareSweep) (o : List Float) (c : Call)
    → Follows (answer n (time r a) (probe_of a s o) c).probe (continue n r a c)
unfolding answer continue time
answers (suc n) r a s o c = refl
answers zero false a s o c = refl
answers zero true a s o c = ticks a s o c

pub numbers : (n : ℕ) (t : Option Float) (p : Probe) (c : Call) → number (answer n t p c).reply ≡ n
unfolding answer number tick
numbers (suc n) t p c = refl
numbers zero None p c = refl
numbers zero (Some e) p c = refl

pub one : (p : Probe) (a : Account) (c : Call) → Follows p a → Follows (step p c).probe (next a c)
unfolding step next turned
one p a c h =
    subst (λ (q : Probe). Follows (step q c).probe (next a c)) (sym h)
    (rw clocks (answers (turned a c) a.running a p.sweep p.samples.offsets c))

pub replied : (p : Probe) (a : Account) (c : Call) → Follows p a → number (step p c).reply ≡ turned a c
unfolding step turned
replied p a c h = rw (numbers, h, clocks)

-- ---- every list of calls
pub follows : (cs : List Call) (p : Probe) (a : Account) → Follows p a → Follows (after p cs) (account a cs)
follows [] p a h = h
follows (c ∷ cs) p a h = follows cs (step p c).probe (next a c) (one p a c h)

pub turns : (cs : List Call) (p : Probe) (a : Account) → Follows p a → map number (replies p cs) ≡ turned_back a cs
unfolding replies turned_back
turns [] p a h = refl
turns (c ∷ cs) p a h = ap₂ ◌∷◌ (replied p a c h) (turns cs (step p c).probe (next a c) (one p a c h))

-- a fresh probe follows a fresh account
pub begins : (high : Bool) (c : IdentifyConfig) → Follows (fresh_at high c) (opened c)
unfolding fresh_at opened stands no_samples
begins high c = refl
