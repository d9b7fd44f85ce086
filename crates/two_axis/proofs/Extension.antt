-- Where either axis wishes for the extension, both take it.
use Prim.Native.Nat.{ℕ}
use mathlib.Core.Path.{◌≡◌, refl, sym, ap, subst₂, ◌∙◌}
use mathlib.Core.Bool.{Bool, true, false, not, ◌&&◌, ◌||◌, or-true}
use Rattle.std.proofs.lemmas.Bool.{and_parts, not-true}
use lib.Ieee.{Float, binary32, add, lt}
use Rattle.account.specs.declared.IdentifyExtension.{IdentifyExtension}
use Rattle.std.specs.Prelude.{Option, Some, None}
use Rattle.account.specs.Probe.{Call}
use Rattle.account.specs.Account.{Account, entry, counted, is_integrated, account_class, judged, ended, accept, continue, next, turned}
use Rattle.two_axis.specs.Axes.{Axis, first, second, TwoCall, call_of, tied}
use Rattle.two_axis.specs.Accounts.{Accounts, wishes, next_two}
use Rattle.two_axis.proofs.Together.{Together, both}

module _ (e : IdentifyExtension) where
  abbrev Taken : Float → Option IdentifyExtension → Type 0
  Taken end unused = (end ≡ e.duration_s) × (unused ≡ None)

  judges : (w : Bool) (u : Option IdentifyExtension) (a : Account) → w ≡ true → u ≡ Some e → Taken (judged w u a).end (judged w u a).unused
  unfolding judged
  judges w u a i h = rw (i, h) (refl, refl)

  ends : (w l : Bool) (a : Account) → (w || is_integrated (account_class a)) ≡ true → l ≡ false → a.unused ≡ Some e → Taken (ended w l a).end (ended w l a).unused
  unfolding ended
  ends w l a i b h = rw b (judges _ _ a i h)

  nexts : (a : Account) (c : Call) → a.running ≡ true → turned a c ≡ 0 → lt (add binary32 a.elapsed c.dt) a.end ≡ false
      → (c.asked || is_integrated (account_class (counted a c))) ≡ true → a.unused ≡ Some e → Taken (next a c).end (next a c).unused
  unfolding next continue accept counted
  nexts a c r t b i h = subst₂ (λ (n : ℕ) (s : Bool). Taken (continue n s a c).end (continue n s a c).unused) (sym t) (sym r) (ends c.asked _ (counted a c) i b h)

  module _ (a : Accounts) (h : Together (a first) (a second)) (k : TwoCall) where
    own : (x : Axis) → turned (a x) (call_of k x false) ≡ 0 → wishes (a x) (call_of k x false) ≡ true → (a x).unused ≡ Some e
        → Taken (next_two a k x).end (next_two a k x).unused
    unfolding wishes counted entry turned
    own x t w u =
        let late = not (lt (add binary32 (a x).elapsed k.dt) (a x).end) in
        let (ending, integrated) = and_parts ((a x).running && late) (is_integrated (account_class (counted (a x) (call_of k x false)))) w in
        let (runs, reached) = and_parts (a x).running late ending in
        let asked = (tied wishes a k x).asked in
        nexts (a x) (tied wishes a k x) runs t (not-true _ reached) (ap (λ (b : Bool). asked || b) integrated ∙ or-true asked) u

    -- the two have one end and one extension, so what one takes the other takes
    pub extended : (x y : Axis) → turned (a x) (call_of k x false) ≡ 0 → wishes (a x) (call_of k x false) ≡ true → (a x).unused ≡ Some e
        → Taken (next_two a k y).end (next_two a k y).unused
    extended first first t w u = own first t w u
    extended first second t w u = let o = own first t w u in (sym (both a h k).end ∙ o.0, sym (both a h k).unused ∙ o.1)
    extended second first t w u = let o = own second t w u in ((both a h k).end ∙ o.0, (both a h k).unused ∙ o.1)
    extended second second t w u = own second t w u
