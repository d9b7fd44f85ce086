-- The delay that a probe keeps is the account's, by the position that won; where it keeps no model there is none.
use Prim.Native.Nat.{ℕ, ◌+◌, ◌-◌, ◌≤◌}
use mathlib.Core.Path.{◌≡◌, refl, sym, ap, subst, ◌∙◌}
use mathlib.Core.Bool.{Bool, true, false, cond}
use mathlib.Core.List.{List}
use native.Mathlib.Omega.{arith}
use lib.Dec.{leb}
use lib.ListN.{length, replicate, length-replicate}
use lib.Ieee.{Float, le}
use Rattle.float.specs.Values.{zero32}
use Rattle.float.specs.Root.{rooted}
use Rattle.float.proofs.Fill.{filled}
use Rattle.window.specs.Walk.{many, is_row}
use Rattle.delay.specs.declared.Delay.{Delay}
use Rattle.delay.specs.declared.RateModel.{RateModel}
use Rattle.std.specs.Prelude.{Option, Some, None}
use Rattle.delay.specs.HalfTicks.{of_recorded, of_integrated, no_delay}
use Rattle.delay.specs.Tie.{entry_count, delay_to_fit}
use Rattle.delay.proofs.Winner.{won}
use Rattle.least_squares.specs.declared.Solution.{Solution}
use Rattle.recorded.specs.declared.Classified.{Classified}
use Rattle.recorded.specs.declared.Classified.TheVariants.{Recorded, Integrated, Unexcited, Saturated}
use Rattle.recorded.specs.Classify.{fit_at, fit_of, class_of, classify, fit_recorded, quiet_or, noisy_class, saturated, solved_at, noisy_residual, rows_dt, model_of, tie_share}
use Rattle.recorded.proofs.Winner.{is_a_delay}
use Rattle.gain.specs.declared.GainFit.{GainFit}
use Rattle.gain.specs.Gain.{first_tick, step_count}
use Rattle.grid.specs.declared.LagFit.{LagFit}
use Rattle.grid.specs.Grid.{kept_at}
use Rattle.golden.specs.Golden.{refined}
use Rattle.integrated.specs.Integrated.{modelled, no_model, chosen_from, chosen_at, searched, window_fit, mean_dt, fit_long, fit_integrated}
use Rattle.integrated.specs.Integrated as integrated
use Rattle.account.specs.declared.IdentifyStatus.{IdentifyStatus}
use Rattle.account.specs.declared.IdentifyStatus.TheVariants as status
use Rattle.account.specs.Probe.{finished, status_of, delay_of, stands}
use Rattle.account.specs.Account.{Account, rates_of, moments_of, marks_of, account_class}
use Rattle.account.specs.Claim.{recorded_position, integrated_position, Delayed, by_recorded, by_integrated, delay_at, delay_by, account_delay}

-- what a status keeps of a delay: a model with it, one tick to ten and a half, or none
data Keeps (a : Account) (s : IdentifyStatus) (d : Delay) : Type 0 where
  model : (m : RateModel) → s ≡ status.Done m → Delayed a m → d ≡ m.delay → 2 ≤ d.half_ticks → d.half_ticks ≤ 21 → Keeps a s d
  nothing : ((m : RateModel) → s ≡ status.Done m → ⊥) → delay_of s ≡ no_delay → d ≡ no_delay → Keeps a s d

running : (a : Account) (e : Float) → Keeps a (status.Running e) no_delay
unfolding delay_of
running a e = nothing (λ m h. let z : ◌≡◌ {A = ℕ} 0 1 = cc in omega arith) refl refl

unexcited : (a : Account) → Keeps a status.Unexcited no_delay
unfolding delay_of
unexcited a = nothing (λ m h. let z : ◌≡◌ {A = ℕ} 0 1 = cc in omega arith) refl refl

saturates : (a : Account) → Keeps a status.Saturated no_delay
unfolding delay_of
saturates a = nothing (λ m h. let z : ◌≡◌ {A = ℕ} 0 1 = cc in omega arith) refl refl

-- ---- the recorded fit
no_recorded : (b : Bool) (m : RateModel) → noisy_class b ≡ Recorded m → ⊥
no_recorded true m h = let z : ◌≡◌ {A = ℕ} 0 1 = cc in omega arith
no_recorded false m h = let z : ◌≡◌ {A = ℕ} 0 1 = cc in omega arith

quiet : (b : Bool) (m n : RateModel) (moments : List Float) → quiet_or b n moments ≡ Recorded m → n ≡ m
quiet true m n moments h = cc
quiet false m n moments h = absurd (no_recorded (saturated moments) m h)

-- ---- the integrated fit: the step of a position that won has a candidate
candidate : (kept : ℕ → Option LagFit) (p : ℕ) → delay_to_fit zero32 (integrated.entries kept) ≡ Some p → kept (p - 1) ≡ None → ⊥
unfolding integrated.entries integrated.entry_of
candidate kept p e h =
    let w = won zero32 (integrated.entries kept) p e in
    w.there
    (filled (λ s l. integrated.entry_of (kept s)) (replicate entry_count None) None step_count (p - 1) (simp length-replicate (omega arith)) (omega (arith, w.from_one, w.in_list)) ∙ rw h)

module _ (a : Account) where
  by_solved : (m : RateModel) (s : Option Solution) (p : ℕ) (dt : Float) (rows : ℕ) (moments : List Float) → recorded_position a ≡ Some p
      → class_of (fit_at s p dt rows) moments ≡ Recorded m → Keeps a (status.Done m) (of_recorded p)
  unfolding fit_at class_of model_of
  by_solved m None p dt rows moments q h = absurd (let z : ◌≡◌ {A = ℕ} 0 1 = cc in omega arith)
  by_solved m (Some s) p dt rows moments q h =
      let same : of_recorded p ≡ m.delay = ap (λ (x : RateModel). x.delay) (quiet (le (rooted _) noisy_residual) m (model_of s p dt) moments h) in
      let w = is_a_delay (solved_at (rates_of a) (moments_of a) (marks_of a)) tie_share p q in
      model m refl (by_recorded p q (sym same)) same (omega (arith, w.0)) (omega (arith, w.1))

  by_position : (m : RateModel) (q : Option ℕ) (f : ℕ → Option Solution) (dt : Float) (rows : ℕ) (moments : List Float) → recorded_position a ≡ q
      → class_of (fit_of q f dt rows) moments ≡ Recorded m → Keeps a (status.Done m) (delay_at of_recorded q)
  unfolding fit_of class_of delay_at
  by_position m None f dt rows moments e h = absurd (let z : ◌≡◌ {A = ℕ} 0 1 = cc in omega arith)
  by_position m (Some p) f dt rows moments e h = by_solved m (f (p - 1)) p dt rows moments e h

  keeps_recorded : (m : RateModel) → account_class a ≡ Recorded m → Keeps a (status.Done m) (delay_at of_recorded (recorded_position a))
  unfolding classify fit_recorded
  keeps_recorded m h =
      by_position m (recorded_position a) (solved_at (rates_of a) (moments_of a) (marks_of a)) (rows_dt (marks_of a) (length (rates_of a)) a.duration) (many is_row (marks_of a)) (moments_of a) refl h

  by_kept : (k : Option LagFit) (fit : Float → Option GainFit) (p : ℕ) (dt : Float) → integrated_position a ≡ Some p → (k ≡ None → ⊥)
      → Keeps a (status_of (chosen_from k fit p dt).model) (of_integrated p)
  unfolding chosen_from modelled integrated.model_of
  by_kept None fit p dt e h = absurd (h refl)
  by_kept (Some b) fit p dt e h =
      let w = won zero32 _ p e in
      model (integrated.model_of (refined fit b).best p dt) refl (by_integrated p e refl) refl (omega (arith, w.from_one)) (omega (arith, w.in_list))

  by_step : (q : Option ℕ) (dt : Float) (fit : ℕ → Float → Option GainFit) → integrated_position a ≡ q → delay_to_fit zero32 (integrated.entries (kept_at dt fit)) ≡ q
      → Keeps a (status_of (chosen_at q dt fit).model) (delay_at of_integrated q)
  unfolding chosen_at no_model delay_at
  by_step None dt fit e h = unexcited a
  by_step (Some p) dt fit e h = by_kept (kept_at dt fit (p - 1)) (fit (p - 1)) p dt e (candidate (kept_at dt fit) p h)

  by_long : (b : Bool) → Keeps a (status_of (fit_long b (rates_of a) (moments_of a) a.duration (length (rates_of a))).model) (cond b no_delay (delay_at of_integrated (integrated_position a)))
  unfolding fit_long no_model searched
  by_long true = unexcited a
  by_long false =
      let n = length (rates_of a) in
      let dt = mean_dt a.duration n in
      by_step (integrated_position a) dt (window_fit (rates_of a) (moments_of a) dt n) refl refl

  by_class : (x : Classified) → account_class a ≡ x → Keeps a (finished x (rates_of a) (moments_of a) a.duration).status (delay_by x a)
  unfolding finished fit_integrated delay_by
  by_class (Recorded m) e = keeps_recorded m e
  by_class Integrated e = by_long (leb (length (rates_of a)) (first_tick + 1))
  by_class Unexcited e = unexcited a
  by_class Saturated e = saturates a

  keeps : (r : Bool) → Keeps a (stands r a.elapsed (rates_of a) (moments_of a) (marks_of a) a.duration).status (cond r no_delay (delay_by (account_class a) a))
  unfolding stands
  keeps true = running a a.elapsed
  keeps false = by_class (account_class a) refl

  -- ---- what it says: of a model, and of the account
  of_model : {s : IdentifyStatus} {d : Delay} (m : RateModel) → s ≡ status.Done m → Keeps a s d → Delayed a m × (2 ≤ d.half_ticks)
  of_model m e (model n f h k one most) = (subst (Delayed a) (let same : n ≡ m = cc in same) h, one)
  of_model m e (nothing h f k) = absurd (h m e)

  of_status : {s : IdentifyStatus} {d : Delay} → Keeps a s d → (delay_of s ≡ d) × (d.half_ticks ≤ 21)
  unfolding delay_of
  of_status (model m e h k one most) = (rw e (sym k), most)
  of_status (nothing h e k) = (e ∙ sym k, rw k (omega arith))

  pub of_done : (m : RateModel) → (stands a.running a.elapsed (rates_of a) (moments_of a) (marks_of a) a.duration).status ≡ status.Done m → Delayed a m × (2 ≤ (account_delay a).half_ticks)
  unfolding account_delay
  of_done m e = of_model m e (keeps a.running)

  pub of_any : (delay_of (stands a.running a.elapsed (rates_of a) (moments_of a) (marks_of a) a.duration).status ≡ account_delay a) × ((account_delay a).half_ticks ≤ 21)
  unfolding account_delay
  of_any = of_status (keeps a.running)
