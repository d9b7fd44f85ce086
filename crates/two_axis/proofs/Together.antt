-- The two accounts keep one clock: they turn the same calls back, take the extension at the same call, and end at the same call.
use Prim.Native.Nat.{ℕ, zero, suc}
use mathlib.Core.Path.{◌≡◌, refl, sym, ap, ap₂, subst₂, ◌∙◌}
use Rattle.std.specs.Prelude.{Option, Some, None}
use mathlib.Core.Bool.{Bool, true, false, not, ◌&&◌, ◌||◌, or_comm}
use mathlib.Core.List.{List, [], ◌∷◌}
use lib.Ieee.{binary32, add, lt}
use Rattle.account.specs.declared.IdentifyExtension.{IdentifyExtension}
use Rattle.account.specs.Probe.{Call}
use Rattle.account.specs.Account.{Account, Going, entry, counted, is_integrated, account_class, judged, ended, accept, continue, next, time, turned, turned_back}
use Rattle.two_axis.specs.Axes.{Axis, first, second, TwoCall, call_of, tied}
use Rattle.two_axis.specs.Accounts.{Accounts, wishes, next_two, calls_of, account_two}
use Rattle.two_axis.proofs.Tied.{tied_first, tied_second}

pub record Together (a b : Account) : Type 0 where
  pub elapsed : a.elapsed ≡ b.elapsed
  pub ticks : a.ticks ≡ b.ticks
  pub end : a.end ≡ b.end
  pub unused : a.unused ≡ b.unused
  pub running : a.running ≡ b.running

judges : (w : Bool) (u : Option IdentifyExtension) (a b : Account) → a.elapsed ≡ b.elapsed → a.end ≡ b.end → judged w u a ≡ judged w u b
unfolding judged
judges true (Some x) a b e n = rw e
judges true None a b e n = rw n
judges false u a b e n = rw n

-- each is asked by the other's wish, so both take the extension or neither
ends : (l : Bool) (a b : Account) → a.elapsed ≡ b.elapsed → a.end ≡ b.end → a.unused ≡ b.unused
    → ended (not l && is_integrated (account_class b)) l a ≡ ended (not l && is_integrated (account_class a)) l b
unfolding ended
ends true a b e n u = rw (n, u)
ends false a b e n u =
    ap₂ (λ (w : Bool) (v : Option IdentifyExtension). judged w v a) (or_comm (is_integrated (account_class b)) (is_integrated (account_class a))) u
    ∙ judges (is_integrated (account_class a) || is_integrated (account_class b)) b.unused a b e n

times : (r : Bool) (a b : Account) → a.elapsed ≡ b.elapsed → time r a ≡ time r b
unfolding time
times true a b e = ap Some e
times false a b e = refl

pub times_of : (a b : Account) → Together a b → time a.running a ≡ time b.running b
times_of a b h = times a.running a b h.elapsed ∙ ap (λ (r : Bool). time r b) h.running

-- one call of each, with the same dt, that is asked by the other's wish
module _ (a b : Account) (h : Together a b) (c k : Call) (d : c.dt ≡ k.dt) (p : c.asked ≡ wishes b k) (q : k.asked ≡ wishes a c) where
  abbrev below : Account → Call → Bool
  below x m = lt (add binary32 x.elapsed m.dt) x.end

  goes : a.running ≡ true → ended c.asked (below a c) (counted a c) ≡ ended k.asked (below b k) (counted b k)
  unfolding wishes counted
  goes r =
      let e : add binary32 a.elapsed c.dt ≡ add binary32 b.elapsed k.dt = ap₂ (add binary32) h.elapsed d in
      let l : below a c ≡ below b k = ap₂ lt e h.end in
      let asked = p ∙ ap (λ (s : Bool). s && not (below b k) && is_integrated (account_class (counted b k))) (sym h.running ∙ r) in
      let asks = q ∙ ap₂ (λ (s m : Bool). s && not m && is_integrated (account_class (counted a c))) r l in
      ap₂ (λ (w m : Bool). ended w m (counted a c)) asked l
      ∙ ends (below b k) (counted a c) (counted b k) e h.end h.unused
      ∙ sym (ap (λ (w : Bool). ended w (below b k) (counted b k)) asks)

  accepts : a.running ≡ true → Together (accept a c) (accept b k)
  unfolding accept counted
  accepts r = record {
    elapsed = ap₂ (add binary32) h.elapsed d;
    ticks = ap suc h.ticks;
    end = ap (λ (g : Going). g.end) (goes r);
    unused = ap (λ (g : Going). g.unused) (goes r);
    running = ap (λ (g : Going). g.running) (goes r);
  }

  continues : (n : ℕ) (r : Bool) → a.running ≡ r → Together (continue n r a c) (continue n r b k)
  unfolding continue
  continues (suc n) r e = h
  continues zero false e = h
  continues zero true e = accepts e

  turns : turned a c ≡ turned b k
  unfolding turned
  turns = cc (times_of a b h)

  nexts : Together (next a c) (next b k)
  unfolding next
  nexts = subst₂ (λ (n : ℕ) (r : Bool). Together (next a c) (continue n r b k)) turns h.running (continues (turned a c) a.running refl)

-- ---- every list of calls
-- a wish does not look at whether its call is asked
unasked : (a : Account) (c : TwoCall) (x : Axis) (asked : Bool) → wishes a (call_of c x asked) ≡ wishes a (call_of c x false)
unfolding wishes counted entry
unasked a c x asked = refl

module _ (a : Accounts) (h : Together (a first) (a second)) (c : TwoCall) where
  wished : (x : Axis) → wishes (a x) (call_of c x false) ≡ wishes (a x) (tied wishes a c x)
  wished x = sym (unasked (a x) c x (tied wishes a c x).asked)

  asked_first : (tied wishes a c first).asked ≡ wishes (a second) (tied wishes a c second)
  asked_first = ap (λ (k : Call). k.asked) (tied_first wishes a c) ∙ wished second

  asked_second : (tied wishes a c second).asked ≡ wishes (a first) (tied wishes a c first)
  asked_second = ap (λ (k : Call). k.asked) (tied_second wishes a c) ∙ wished first

  pub both : Together (next_two a c first) (next_two a c second)
  both = nexts (a first) (a second) h (tied wishes a c first) (tied wishes a c second) refl asked_first asked_second

  pub both_turn : turned (a first) (tied wishes a c first) ≡ turned (a second) (tied wishes a c second)
  both_turn = turns (a first) (a second) h (tied wishes a c first) (tied wishes a c second) refl asked_first asked_second

pub together : (cs : List TwoCall) (a : Accounts) → Together (a first) (a second) → Together (account_two a cs first) (account_two a cs second)
unfolding calls_of
together [] a h = h
together (c ∷ cs) a h = together cs (next_two a c) (both a h c)

pub turned_together : (cs : List TwoCall) (a : Accounts) → Together (a first) (a second)
    → turned_back (a first) (calls_of a cs first) ≡ turned_back (a second) (calls_of a cs second)
unfolding calls_of turned_back
turned_together [] a h = refl
turned_together (c ∷ cs) a h = ap₂ ◌∷◌ (both_turn a h c) (turned_together cs (next_two a c) (both a h c))
