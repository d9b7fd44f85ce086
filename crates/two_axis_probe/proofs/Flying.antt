-- Both axes over a list of calls. What `fresh` and calls of `step` leave is what the definitions' two probes are after the same calls: they have one clock after
-- every list, so each call is each axis's own step. So the structs and the arrays hold the accounts.
use Prim.Native.Nat.{ℕ, zero, suc, ◌≤◌}
use mathlib.Core.Path.{◌≡◌, sym, ap, fun_ext, ◌∙◌}
use mathlib.Core.Bool.{false}
use Rattle.std.specs.Prelude.{Option, Some, None}
use mathlib.Core.List.{List, [], ◌∷◌, ◌++◌, foldl-append}
use native.Mathlib.Omega.{arith}
use lib.Ieee.{Float}
use Rattle.window.specs.Samples.{capacity}
use Rattle.window.specs.Lent.{Whole}
use Rattle.account.specs.declared.IdentifyConfig.{IdentifyConfig}
use Rattle.account.specs.Probe.{Step, clock}
use Rattle.identify.specs.Seen.{seen, fresh_probe_at}
use Rattle.identify.proofs.Making.{stored_whole, ticked_fits}
use Rattle.identify.proofs.Making as making
use Rattle.two_axis.specs.Axes.{Axis, first, second, level, axes, TwoCall, call_of}
use Rattle.two_axis.specs.Probes.{Probes, fresh_two, step_two, moved, after_two}
use Rattle.two_axis.specs.Accounts.{opened_two, account_two}
use Rattle.two_axis.proofs.Theorem.{two_accounted}
use Rattle.two_axis_probe.specs.Stepped.{Structs, Lents, probes_of, seen_two, probes_left, lents_left, fresh_two_axis, tied_in, two_ticked, either_number, number_in, two_answer_by, two_stepped_by, reply_two}
use Rattle.two_axis_probe.specs.Held.{Stands, HoldsTwo}
use Rattle.two_axis_probe.proofs.Stepping.{steps}

-- what is so of each axis is so of both
pub by_axis : (P : Axis → Type 0) → P first → P second → (x : Axis) → P x
by_axis P a b first = a
by_axis P a b second = b

-- a call leaves the arrays as long as they were, and counts no more than they hold
module _ (p : Structs) (l : Lents) (c : TwoCall) where
  still_whole : (n : ℕ) (t u : Option Float) → ((x : Axis) → Whole (l x)) → (x : Axis) → Whole (lents_left (two_answer_by n t u p l c) x)
  unfolding two_answer_by two_ticked
  still_whole (suc n) t u w = by_axis _ (w first) (w second)
  still_whole zero None u w = by_axis _ (w first) (w second)
  still_whole zero (Some e) None w = by_axis _ (w first) (w second)
  still_whole zero (Some e) (Some d) w =
      by_axis _ (stored_whole (p first) (l first) (call_of c first false) e (w first)) (stored_whole (p second) (l second) (call_of c second false) d (w second))

  still_fits : (n : ℕ) (t u : Option Float) → ((x : Axis) → (p x).window.len ≤ capacity) → (x : Axis) → (probes_left (two_answer_by n t u p l c) x).window.len ≤ capacity
  unfolding two_answer_by two_ticked
  still_fits (suc n) t u h = by_axis _ (h first) (h second)
  still_fits zero None u h = by_axis _ (h first) (h second)
  still_fits zero (Some e) None h = by_axis _ (h first) (h second)
  still_fits zero (Some e) (Some d) h =
      by_axis _ (ticked_fits (p first) (l first) (tied_in (axes e d) p l c first) e (h first)) (ticked_fits (p second) (l second) (tied_in (axes e d) p l c second) d (h second))

module _ (c : IdentifyConfig) where
  begin : (l : Lents) (x : Axis) → seen_two (probes_of (fresh_two_axis c)) l x ≡ fresh_two c x
  begin l first = making.begins (level first) c (l first)
  begin l second = making.begins (level second) c (l second)

  empty : (x : Axis) → (probes_of (fresh_two_axis c) x).window.len ≤ capacity
  unfolding fresh_probe_at
  empty first = omega arith
  empty second = omega arith

  -- two probes just made, whatever the arrays hold
  pub begins : (l : Lents) → ((x : Axis) → Whole (l x)) → Stands c [] (probes_of (fresh_two_axis c)) l
  begins l w = record { seen = begin l; whole = w; within = empty }

module _ {c : IdentifyConfig} {calls : List TwoCall} {p : Structs} {l : Lents} (h : Stands c calls p l) where
  seen_all : seen_two p l ≡ after_two (fresh_two c) calls
  seen_all = fun_ext h.seen

  -- they hold the accounts
  pub holds : HoldsTwo c calls p l (account_two (opened_two c) calls)
  holds =
      let k = rw (← seen_all) at (two_accounted c calls) in
      record { accounted = k; each = λ x. making.holds (h.whole x) (k.each x) }

  -- one call more
  module _ (k : TwoCall) where
    stepped : (x : Axis)
        → ◌≡◌ {A = Step} (record { probe = seen_two (probes_left (two_stepped_by p l k)) (lents_left (two_stepped_by p l k)) x; reply = reply_two (two_stepped_by p l k).answer x }) (step_two (after_two (fresh_two c) calls) k x)
    stepped x =
        let a = holds.accounted in
        steps p l k h.whole (unfold seen in a.ended) (unfold seen in a.ticks) x ∙ ap (λ (q : Probes). step_two q k x) seen_all

    pub replies_on : (x : Axis) → reply_two (two_stepped_by p l k).answer x ≡ (step_two (after_two (fresh_two c) calls) k x).reply
    replies_on x = ap (λ (s : Step). s.reply) (stepped x)

    pub goes_on : Stands c (calls ++ (k ∷ [])) (probes_left (two_stepped_by p l k)) (lents_left (two_stepped_by p l k))
    unfolding two_stepped_by
    goes_on =
        let n = either_number (number_in p k.dt first) (number_in p k.dt second) in
        let t = clock (p first).status in
        let u = clock (p second).status in
        record {
          seen = λ x. ap (λ (s : Step). s.probe) (unfold two_stepped_by in stepped x) ∙ ap (λ (q : Probes). q x) (sym (foldl-append moved (fresh_two c) calls (k ∷ [])));
          whole = still_whole p l k n t u h.whole;
          within = still_fits p l k n t u h.within;
        }
