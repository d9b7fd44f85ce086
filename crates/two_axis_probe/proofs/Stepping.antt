-- A call of both axes, by what it meets: a rule that turns it back, an axis that has ended, or two that run.
-- Where both axes have one clock and as many ticks, its answer is for each axis the definitions' step, asked by the other's wish.
use Prim.Native.Nat.{ℕ, zero, suc, ◌<◌}
use mathlib.Core.Path.{◌≡◌, refl, sym, ap, ap₂, ◌∙◌}
use mathlib.Core.Bool.{Bool, true, false, not, ◌&&◌}
use Rattle.std.specs.Prelude.{Option, Some, None}
use native.Mathlib.Omega.{arith}
use lib.Ieee.{Float, lt}
use Rattle.window.specs.Samples.{Samples}
use Rattle.window.specs.Lent.{Lent, Whole, samples_of}
use Rattle.recorded.specs.Classify.{classify}
use Rattle.account.specs.Rules.{refusal}
use Rattle.account.specs.Probe.{Call, Probe, Step, clock, tick, answer, step}
use Rattle.account.specs.Account.{is_integrated}
use Rattle.closing.specs.Ending.{due_by, asks_of}
use Rattle.identify.specs.declared.IdentifyProbe.{IdentifyProbe}
use Rattle.identify.specs.Seen.{seen, begun_by, stored_in, ticked_probe, ticked, reply_of}
use Rattle.identify.proofs.Ticking.{ticks}
use Rattle.identify.proofs.Stepping.{few_ticks}
use Rattle.two_axis.specs.Axes.{Axis, first, second, other, axes, TwoCall, call_of, tied}
use Rattle.two_axis.specs.Probes.{wishes_at, wishes, step_two}
use Rattle.two_axis_probe.specs.Stepped.{Structs, Lents, seen_two, TwoAnswer, probes_left, lents_left, wish_in, tied_in, two_ticked, either_number, two_answer_by, number_in, two_stepped_by, reply_two}

-- no rule turns a call back that neither axis's turns back
pub neither : (m n : ℕ) → either_number m n ≡ 0 → (m ≡ 0) × (n ≡ 0)
unfolding either_number
neither zero n h = (refl, h)
neither (suc m) n h = absurd (omega arith)

-- then an axis that runs has room for one more tick
pub few_first : (e : Float) (ticks : ℕ) (dt : Float) (n : ℕ) → either_number (refusal (Some e) ticks dt) n ≡ 0 → ticks < 16_777_216
few_first e ticks dt n h = few_ticks e ticks dt (neither _ _ h).0

pub few_second : (m : ℕ) (e : Float) (ticks : ℕ) (dt : Float) → either_number m (refusal (Some e) ticks dt) ≡ 0 → ticks < 16_777_216
few_second m e ticks dt h = few_ticks e ticks dt (neither _ _ h).1

-- ---- the definitions' step
-- an axis's wish is the one that is seen
due_asks : (below : Bool) (w : Samples) → asks_of (due_by below w) ≡ (not below && is_integrated (classify w.rates w.moments w.marks w.duration))
unfolding asks_of due_by
due_asks true w = refl
due_asks false w = refl

module _ (e : Float) (p : IdentifyProbe) (l : Lent) (c : Call) (whole : Whole l) where
  sees : seen (ticked_probe e p l c) (stored_in e p l c) ≡ (tick e (seen p l) c).probe
  unfolding ticked
  sees = ap (λ (s : Step). s.probe) (ticks p e c l whole)

  samples_are : samples_of (begun_by e p c.dt).window (stored_in e p l c) ≡ (tick e (seen p l) c).probe.samples
  unfolding seen ticked_probe
  samples_are = ap (λ (q : Probe). q.samples) (unfold seen ticked_probe in sees)

  wish_seen : wish_in e p l c ≡ wishes_at (Some e) (seen p l) c
  unfolding wish_in wishes_at seen begun_by
  wish_seen =
      let b = begun_by e p c.dt in
      due_asks (lt b.now_s p.duration_s) (samples_of b.window (stored_in e p l c))
      ∙ ap (λ (w : Samples). not (lt b.now_s p.duration_s) && is_integrated (classify w.rates w.moments w.marks w.duration)) samples_are

module _ (p : Structs) (l : Lents) (c : TwoCall) (whole : (x : Axis) → Whole (l x)) where
  abbrev axis_of : TwoAnswer → Axis → Step
  axis_of a x = record { probe = seen_two (probes_left a) (lents_left a) x; reply = reply_two a.answer x }

  -- both run, for the same time
  module _ (e : Float) where
    tied_seen : (x : Axis) → clock (p (other x)).status ≡ Some e → tied_in (axes e e) p l c x ≡ tied wishes (seen_two p l) c x
    unfolding wishes
    tied_seen first h = ap (λ (b : Bool). call_of c first b) (wish_seen e (p second) (l second) (call_of c second false) (whole second) ∙ unfold seen in rw h)
    tied_seen second h = ap (λ (b : Bool). call_of c second b) (wish_seen e (p first) (l first) (call_of c first false) (whole first) ∙ unfold seen in rw h)

    ticks_axis : (x : Axis) → axis_of (two_ticked (axes e e) p l c) x ≡ tick e (seen_two p l x) (tied_in (axes e e) p l c x)
    unfolding two_ticked reply_two ticked reply_of stored_in
    ticks_axis first = ticks (p first) e (tied_in (axes e e) p l c first) (l first) (whole first)
    ticks_axis second = ticks (p second) e (tied_in (axes e e) p l c second) (l second) (whole second)

  -- the answer of both is each axis's own
  answers : (n : ℕ) (t : Option Float) → ((x : Axis) → clock (p x).status ≡ t) → (x : Axis)
      → axis_of (two_answer_by n t t p l c) x ≡ answer n t (seen_two p l x) (tied wishes (seen_two p l) c x)
  unfolding two_answer_by answer reply_two
  answers (suc n) t h first = refl
  answers (suc n) t h second = refl
  answers zero None h first = refl
  answers zero None h second = refl
  answers zero (Some e) h x = ticks_axis e x ∙ ap (tick e (seen_two p l x)) (tied_seen e x (h (other x)))

  -- two axes with one clock and as many ticks
  module _ (clocks : clock (p first).status ≡ clock (p second).status) (same : (p first).ticks ≡ (p second).ticks) where
    abbrev time : Option Float
    time = clock (p first).status

    times : (x : Axis) → clock (p x).status ≡ time
    times first = refl
    times second = sym clocks

    numbers : (x : Axis) → refusal time (p first).ticks c.dt ≡ number_in p c.dt x
    numbers first = refl
    numbers second = ap₂ (λ (t : Option Float) (n : ℕ). refusal t n c.dt) clocks same

    twice : (n : ℕ) → either_number n n ≡ n
    unfolding either_number
    twice zero = refl
    twice (suc n) = refl

    stepped_is : two_stepped_by p l c ≡ two_answer_by (refusal time (p first).ticks c.dt) time time p l c
    unfolding two_stepped_by
    stepped_is = rw (← numbers second, ← clocks, twice)

    pub steps : (x : Axis) → axis_of (two_stepped_by p l c) x ≡ step_two (seen_two p l) c x
    unfolding step seen
    steps x =
        ap (λ (a : TwoAnswer). axis_of a x) stepped_is
        ∙ answers (refusal time (p first).ticks c.dt) time times x
        ∙ ap₂ (λ (n : ℕ) (t : Option Float). answer n t (seen_two p l x) (tied wishes (seen_two p l) c x)) (numbers x) (sym (times x))
