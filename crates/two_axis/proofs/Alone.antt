-- Without an extension nobody can ask for one: an axis is then the single probe that starts at its level.
use Prim.Native.Nat.{ℕ, zero, suc}
use mathlib.Core.Path.{◌≡◌, refl, sym, ap, ◌∙◌}
use mathlib.Core.Bool.{Bool, true, false}
use Rattle.std.specs.Prelude.{Option, Some, None}
use mathlib.Core.List.{List, [], ◌∷◌}
use lib.Ieee.{Float, binary32, add, lt}
use Rattle.sweep.specs.declared.SquareSweep.{SquareSweep}
use Rattle.sweep.specs.Sweep.{next_sweep}
use Rattle.window.specs.Samples.{Samples, store}
use Rattle.recorded.specs.declared.Classified.{Classified}
use Rattle.recorded.specs.declared.Classified.TheVariants.{Recorded, Integrated, Unexcited, Saturated}
use Rattle.recorded.specs.Classify.{classify}
use Rattle.account.specs.Rules.{refusal}
use Rattle.account.specs.Probe.{Reply, Probe, Step, Closing, clock, takes, extend, close, tick, answer, step, after, replies}
use Rattle.two_axis.specs.Axes.{Axis, TwoCall, call_of, own_calls, tied}
use Rattle.two_axis.specs.Probes.{Probes, wishes, moved, after_two, replies_two}

nothing_taken : (asked : Bool) (x : Classified) → takes asked x None ≡ None
unfolding takes
nothing_taken true x = refl
nothing_taken false (Recorded m) = refl
nothing_taken false Integrated = refl
nothing_taken false Unexcited = refl
nothing_taken false Saturated = refl

-- the end of a tick: the bit says nothing, and none is unused after it
module _ (now : Float) (w : Samples) (end : Float) (s : SquareSweep) where
  closes : (asked below : Bool) → (close now w asked below end None s ≡ close now w false below end None s) × ((close now w asked below end None s).unused ≡ None)
  unfolding close extend
  closes asked true = (refl, refl)
  closes asked false =
      let class = classify w.rates w.moments w.marks w.duration in
      rw (nothing_taken asked class, nothing_taken false class) (refl, refl)

-- one call, and every list
module _ (p : Probe) (h : p.unused ≡ None) (c : TwoCall) (x : Axis) (asked : Bool) where
  ticks : (e : Float) → (tick e p (call_of c x asked) ≡ tick e p (call_of c x false)) × ((tick e p (call_of c x asked)).probe.unused ≡ None)
  unfolding tick
  ticks e =
      let now = add binary32 e c.dt in
      let s = next_sweep p.sweep c.dt now in
      let w = store p.samples c.dt (c.readings x).rate (c.readings x).moment s.offset in
      let k = closes now w p.end s.sweep asked (lt now p.end) in
      rw (h, k.0) (refl, sym (ap (λ (z : Closing). z.unused) k.0) ∙ k.1)

  answers : (n : ℕ) (t : Option Float) → (answer n t p (call_of c x asked) ≡ answer n t p (call_of c x false)) × ((answer n t p (call_of c x asked)).probe.unused ≡ None)
  unfolding answer
  answers (suc n) t = (refl, h)
  answers zero None = (refl, h)
  answers zero (Some e) = ticks e

  steps : (step p (call_of c x asked) ≡ step p (call_of c x false)) × ((step p (call_of c x asked)).probe.unused ≡ None)
  unfolding step
  steps = let e = clock p.standing.status in answers (refusal e p.ticks c.dt) e

module _ (x : Axis) where
  pub alone_probe : (cs : List TwoCall) (p : Probes) → (p x).unused ≡ None → after_two p cs x ≡ after (p x) (own_calls x cs)
  alone_probe [] p h = refl
  alone_probe (c ∷ cs) p h =
      let k = steps (p x) h c x (tied wishes p c x).asked in
      alone_probe cs (moved p c) k.1 ∙ ap (λ (s : Step). after s.probe (own_calls x cs)) k.0

  pub alone_replies : (cs : List TwoCall) (p : Probes) → (p x).unused ≡ None → replies_two p cs x ≡ replies (p x) (own_calls x cs)
  unfolding replies_two replies
  alone_replies [] p h = refl
  alone_replies (c ∷ cs) p h =
      let k = steps (p x) h c x (tied wishes p c x).asked in
      ap (λ (rs : List Reply). (step (p x) (tied wishes p c x)).reply ∷ rs) (alone_replies cs (moved p c) k.1)
      ∙ ap (λ (s : Step). s.reply ∷ replies s.probe (own_calls x cs)) k.0
