-- Demand 3, on the definitions: the claim holds of every configuration, level and list of calls. The report of the probe is then that of the account.
use Prim.Native.Nat.{ℕ, suc, ◌+◌, ◌-◌, ◌/◌, ◌<◌}
use mathlib.Core.Path.{◌≡◌, refl, sym, ap₂, subst}
use mathlib.Core.Bool.{Bool, true, false, true≢false}
use mathlib.Core.List.{List, [], foldl-append}
use native.Mathlib.Omega.{arith}
use native.Mathlib.Nat.{div-lt_iff_lt-mul}
use lib.Dec.{lit<}
use lib.ListN.{length, length-map}
use lib.Ieee.{Float, binary32, add, lt}
use Rattle.float.specs.Values.{whole32}
use Rattle.float.specs.Series.{at}
use Rattle.sweep.proofs.Edges.{passes}
use Rattle.window.proofs.Rows as rows
use Rattle.rows.specs.Rows.{no_sums}
use Rattle.rows.proofs.Pairing.{first_moment, over_exactly_the_rows}
use Rattle.lags.specs.Lags.{lagged, lag_to}
use Rattle.gain.specs.Gain.{first_tick, step_count, whole_ticks_of, is_half, blend, felt, regressor}
use Rattle.account.specs.declared.IdentifyConfig.{IdentifyConfig}
use Rattle.account.specs.Rules.{refusal}
use Rattle.account.specs.Probe.{Call, Probe, fresh_at, after}
use Rattle.account.specs.Account.{Account, Entry, opened, account, next, time, turned, rates_of, moments_of, marks_of, runs_of}
use Rattle.account.specs.Claim.{Accounted}
use Rattle.account.proofs.Follow.{follows, turns, begins, clocks}
use Rattle.account.proofs.Counts.{count, full}
use Rattle.account.proofs.Sweeps.{safe, safe_fresh, in_time}
use Rattle.account.proofs.Fits.{fits}
use Rattle.account.proofs.Delays.{of_done, of_any}
use Rattle.account.proofs.Durations.{duration}
use Rattle.account.proofs.Finite.{integrated_class, finite_model}

gain_pairs : (u : ℕ → Float) (s i : ℕ) (pole : Float) → s < step_count
    → regressor s pole u i ≡ blend (is_half s) (lagged pole u (first_tick + i + 1 - whole_ticks_of s)) (lagged pole u (first_tick + i - whole_ticks_of s))
unfolding felt
gain_pairs u s i pole h =
    let below : s / 2 < 10 = (div-lt_iff_lt-mul (lit< tt)).1 h in
    ap₂ (λ (newer older : ℕ). blend (is_half s) (lag_to pole u (suc newer)) (lag_to pole u older)) (let e : (first_tick + 1 - whole_ticks_of s) + i ≡ first_tick + i + 1 - whole_ticks_of s = omega arith in e)
    (let e : (first_tick + 1 - whole_ticks_of s) + i ≡ suc (first_tick + i - whole_ticks_of s) = omega arith in e)

-- a call that the account accepts is in time
accepted_in_time : (a : Account) (c : Call) (r : Bool) → r ≡ true → refusal (time r a) a.ticks c.dt ≡ 0 → lt (whole32 4096) (add binary32 a.elapsed c.dt) ≡ false
unfolding time
accepted_in_time a c true e h = in_time a.elapsed a.ticks c.dt h
accepted_in_time a c false e h = absurd (true≢false (sym e))

pub accounted : (high : Bool) (c : IdentifyConfig) (calls : List Call) → Accounted high c calls (after (fresh_at high c) calls) (account (opened c) calls)
unfolding opened turned
accounted high c calls =
    let a = account (opened c) calls in
    let marks = marks_of a in
    let entries : length (rates_of a) ≡ length marks = simp length-map in
    let safely = safe calls (fresh_at high c) (safe_fresh high c) in
    subst (λ (p : Probe). Accounted high c calls p a) (sym (follows calls (fresh_at high c) (opened c) (begins high c)))
    record {
      refused = turns calls (fresh_at high c) (opened c) (begins high c);
      ended = clocks a.running a;
      ticks = refl;
      rates = refl;
      moments = refl;
      marks = refl;
      duration = refl;
      held = rows.held marks;
      accepts = omega (arith, count calls (opened c));
      stored = simp length-map (full calls (opened c) refl);
      warm = rows.warm marks;
      rows = rows.rows marks;
      whole = rw (← length-map a.entries (λ (e : Entry). e.held)) (omega (arith, rows.whole marks [] 0));
      by_runs = rows.by_runs (runs_of a);
      sums = λ d. rw entries (over_exactly_the_rows marks (rates_of a) (moments_of a) d no_sums);
      standing = refl;
      fits = fits a.running a.elapsed (rates_of a) (moments_of a) marks a.duration;
      row_pairing = λ d k. first_moment (rates_of a) (moments_of a) d k;
      gain_pairing = λ s i pole h. gain_pairs (at (moments_of a)) s i pole h;
      delay = λ m h. (of_done a m h).0;
      half_ticks = (of_any a).0;
      from_one = λ m h. (of_done a m h).1;
      in_range = (of_any a).1;
      integrated_class = λ m e h. integrated_class a a.running m e h;
      finite_model = λ m e h. finite_model a a.running m (duration c calls) e h;
      inside = safely.inside;
      edges = λ x r h. (passes (add binary32 a.elapsed x.dt) (after (fresh_at high c) calls).sweep (accepted_in_time a x a.running r h) safely).loop;
      continued = λ others. foldl-append next (opened c) calls others;
    }
