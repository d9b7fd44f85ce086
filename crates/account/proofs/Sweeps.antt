-- No list of calls brings the sweep to its last edge: a call that is accepted leaves the elapsed time at 4,096 s or below.
use Prim.Native.Nat.{ℕ, zero, suc}
use mathlib.Core.Path.{◌≡◌, refl}
use mathlib.Core.Bool.{Bool, true, false, cond}
use Rattle.std.specs.Prelude.{Option, Some, None}
use mathlib.Core.List.{List, [], ◌∷◌}
use native.Mathlib.Omega.{arith}
use lib.Dec.{leb}
use lib.Ieee.{Float, binary32, add, lt}
use Rattle.float.specs.Values.{whole32}
use Rattle.sweep.specs.declared.SquareSweep.{SquareSweep}
use Rattle.sweep.specs.Sweep.{next_sweep}
use Rattle.sweep.proofs.Edges.{Safe, safe_start, safe_next, safe_amplitude}
use Rattle.window.specs.Samples.{Samples, store}
use Rattle.recorded.specs.Classify.{classify}
use Rattle.account.specs.declared.IdentifyConfig.{IdentifyConfig}
use Rattle.account.specs.declared.IdentifyExtension.{IdentifyExtension}
use Rattle.account.specs.Rules.{positive, overrun, refusal}
use Rattle.account.specs.Probe.{Call, Probe, clock, takes, extend, close, tick, answer, step, fresh_at, after}

-- a call that rules 6 and 7 let pass
pub passed : (e : Float) (ticks : ℕ) (dt : Float) → refusal (Some e) ticks dt ≡ 0 → (positive dt ≡ true) × (lt (whole32 4096) (add binary32 e dt) ≡ false)
unfolding refusal overrun
passed e ticks dt = go (positive dt) (lt (whole32 4096) (add binary32 e dt)) (leb 16_777_216 ticks)
  where
    go : (p l m : Bool) → ◌≡◌ {A = ℕ} (cond p (cond l 7 (cond m 8 0)) 6) 0 → (p ≡ true) × (l ≡ false)
    go false l m h = absurd (omega arith)
    go true true m h = absurd (omega arith)
    go true false m h = (refl, refl)

pub in_time : (e : Float) (ticks : ℕ) (dt : Float) → refusal (Some e) ticks dt ≡ 0 → lt (whole32 4096) (add binary32 e dt) ≡ false
in_time e ticks dt h = (passed e ticks dt h).1

module _ (now : Float) (w : Samples) where
  extends : (x : Option IdentifyExtension) (end : Float) (u : Option IdentifyExtension) (s : SquareSweep) → Safe s → Safe (extend now w x end u s).sweep
  unfolding extend
  extends None end u s h = h
  extends (Some x) end u s h = safe_amplitude s x.amplitude h

  closes : (asked r : Bool) (end : Float) (u : Option IdentifyExtension) (s : SquareSweep) → Safe s → Safe (close now w asked r end u s).sweep
  unfolding close
  closes asked true end u s h = h
  closes asked false end u s h = extends (takes asked (classify w.rates w.moments w.marks w.duration) u) end u s h

ticks : (e : Float) (p : Probe) (c : Call) → lt (whole32 4096) (add binary32 e c.dt) ≡ false → Safe p.sweep → Safe (tick e p c).probe.sweep
unfolding tick
ticks e p c h s =
    let now = add binary32 e c.dt in
    let t = next_sweep p.sweep c.dt now in
    closes now (store p.samples c.dt c.rate c.moment t.offset) c.asked (lt now p.end) p.end p.unused t.sweep
    (safe_next p.sweep c.dt now h s)

answers : (n : ℕ) (t : Option Float) (p : Probe) (c : Call) → refusal t p.ticks c.dt ≡ n → Safe p.sweep → Safe (answer n t p c).probe.sweep
unfolding answer
answers (suc n) t p c h s = s
answers zero None p c h s = s
answers zero (Some e) p c h s = ticks e p c (in_time e p.ticks c.dt h) s

pub safe : (cs : List Call) (p : Probe) → Safe p.sweep → Safe (after p cs).sweep
unfolding step
safe [] p s = s
safe (c ∷ cs) p s =
    safe cs (step p c).probe (answers (refusal (clock p.standing.status) p.ticks c.dt) (clock p.standing.status) p c refl s)

pub safe_fresh : (high : Bool) (c : IdentifyConfig) → Safe (fresh_at high c).sweep
unfolding fresh_at
safe_fresh high c = safe_start c.amplitude c.washout_tc_s high
