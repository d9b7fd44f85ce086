-- What an opening answers, by its tests; and a call put together: the probes as they are read, what their step answers, and what is kept of that.
use Prim.Native.Nat.{ℕ, zero, suc}
use mathlib.Core.Path.{◌≡◌, refl, ap, ap₂, fun_ext, ◌∙◌}
use lib.Ieee.{Float}
use Rattle.account.specs.declared.IdentifyConfig.{IdentifyConfig}
use Rattle.account.specs.Rules.{broken}
use Rattle.account.specs.Probe.{number}
use Rattle.probe_words.specs.Layout.{Scalars, scalars_of}
use Rattle.live_probe.specs.Live.{live, live_probe}
use Rattle.two_axis.specs.Axes.{Axis, first, second, axes, TwoCall}
use Rattle.std.specs.Prelude.{Option, Result, Ok, Err}
use Rattle.identify.specs.declared.IdentifyProbe.{IdentifyProbe}
use native.Mathlib.Omega.{arith}
use Rattle.window.specs.declared.LentArrays.{LentArrays}
use Rattle.window.specs.Lent.{Lent, arrays_in}
use Rattle.two_axis_probe.specs.declared.TwoAxisProbe.{TwoAxisProbe}
use Rattle.two_axis_probe.specs.Stepped.{Structs, Lents, TwoAnswer, probes_of, lents_of, fresh_two_axis, two_opened_by, probes_left, lents_left, two_stepped_by, LeavesTwo, answer_of, reply_two}
use Rattle.two_axis_probe.proofs.Flying.{by_axis}
use Rattle.live_pair.specs.Pair.{Pair, pair_probes, pair_lents, pair_opening, pair_open_by, pair_open, scalars_after_two, offset_after_two, pair_flight, pair_step}

-- an opening
module _ (c : IdentifyConfig) (s : Axis → Scalars) where
  pub unknown : (options : ℕ) → (options ≡ 0 → ⊥) → pair_opening 9 s ≡ pair_open options c s
  unfolding pair_open
  unknown zero n = absurd (n refl)
  unknown (suc options) n = refl

  refused_by : (b n : ℕ) → two_opened_by b c ≡ Err n → pair_opening n s ≡ pair_open_by b c s
  unfolding two_opened_by pair_open_by
  refused_by zero n h = absurd (let z : ◌≡◌ {A = ℕ} 0 1 = cc in omega arith)
  refused_by (suc b) n h = let same : suc b ≡ n = cc in rw same

  opens_so : (b : ℕ) (p : TwoAxisProbe) → two_opened_by b c ≡ Ok p → (t : Axis → Scalars) → ((x : Axis) → t x ≡ scalars_of (probes_of p x)) → pair_opening 0 t ≡ pair_open_by b c s
  unfolding two_opened_by pair_open_by
  opens_so zero p h t is = let same : p ≡ fresh_two_axis c = cc in ap (pair_opening 0) (fun_ext (λ x. is x ∙ ap (λ (q : TwoAxisProbe). scalars_of (probes_of q x)) same))
  opens_so (suc b) p h t is = absurd (let z : ◌≡◌ {A = ℕ} 0 1 = cc in omega arith)

  module _ (options : ℕ) (e : options ≡ 0) where
    pub turned_away : (n : ℕ) → two_opened_by (broken c) c ≡ Err n → pair_opening n s ≡ pair_open options c s
    unfolding pair_open
    turned_away n h = rw e (refused_by (broken c) n h)

    pub opens : (p : TwoAxisProbe) → two_opened_by (broken c) c ≡ Ok p → (t : Axis → Scalars) → ((x : Axis) → t x ≡ scalars_of (probes_of p x)) → pair_opening 0 t ≡ pair_open options c s
    unfolding pair_open
    opens p h t is = rw e (opens_so (broken c) p h t is)

-- a call
module _ (k : Pair) (y : TwoCall) where
  abbrev answer : TwoAnswer
  answer = two_stepped_by (pair_probes k) (pair_lents k) y

  -- the probes and the arrays as the code has them are those that are kept
  same : (p : TwoAxisProbe) (lent1 lent2 : LentArrays) → p.first ≡ live_probe (k first) → p.second ≡ live_probe (k second)
      → arrays_in lent1 ≡ (k first).lent → arrays_in lent2 ≡ (k second).lent → answer_of p lent1 lent2 y ≡ answer
  same p lent1 lent2 p1 p2 l1 l2 =
      ap₂ (λ (q : Structs) (j : Lents). two_stepped_by q j y) (fun_ext (by_axis (λ x. probes_of p x ≡ pair_probes k x) p1 p2)) (fun_ext (by_axis (λ x. lents_of lent1 lent2 x ≡ pair_lents k x) l1 l2))

  -- an answer w, and what it leaves of both axes, put together
  module _ (found off : Axis → Float) (w : Result (Option (Float × Float)) ℕ) (p q : IdentifyProbe) (l m : Lent) where
    stepped : ((x : Axis) → off x ≡ offset_after_two w x (found x)) → w ≡ answer.answer → p ≡ answer.first → q ≡ answer.second → l ≡ answer.lent1 → m ≡ answer.lent2
        → pair_flight (number (reply_two w first)) off (axes (live (scalars_after_two w (axes p q) first (k first).scalars) l) (live (scalars_after_two w (axes p q) second (k second).scalars) m)) ≡ pair_step k y found
    unfolding pair_step
    stepped ho hw hp hq hl hm =
        let put : (x : Axis) → axes (live (scalars_after_two w (axes p q) first (k first).scalars) l) (live (scalars_after_two w (axes p q) second (k second).scalars) m) x
        ≡ live (scalars_after_two answer.answer (probes_left answer) x (k x).scalars) (lents_left answer x) = by_axis _ (rw (hw, hp, hq, hl)) (rw (hw, hp, hq, hm)) in
        let offsets : (x : Axis) → off x ≡ offset_after_two answer.answer x (found x) = λ x. ho x ∙ ap (λ (v : Result (Option (Float × Float)) ℕ). offset_after_two v x (found x)) hw in
        λ i. pair_flight (number (reply_two (hw i) first)) (fun_ext offsets i) (fun_ext put i)

  -- the same of the step that the code makes
  pub told : (p left : TwoAxisProbe) (lent1 left1 lent2 left2 : LentArrays) → p.first ≡ live_probe (k first) → p.second ≡ live_probe (k second) → arrays_in lent1 ≡ (k first).lent → arrays_in lent2 ≡ (k second).lent
      → LeavesTwo p left lent1 left1 lent2 left2 (answer_of p lent1 lent2 y) → (w : Result (Option (Float × Float)) ℕ) → w ≡ (answer_of p lent1 lent2 y).answer
      → (found off : Axis → Float) → ((x : Axis) → off x ≡ offset_after_two w x (found x))
      → pair_flight (number (reply_two w first)) off
      (axes (live (scalars_after_two w (axes left.first left.second) first (k first).scalars) (arrays_in left1)) (live (scalars_after_two w (axes left.first left.second) second (k second).scalars) (arrays_in left2)))
      ≡ pair_step k y found
  told p left lent1 left1 lent2 left2 p1 p2 l1 l2 z w hw found off ho =
      let so = same p lent1 lent2 p1 p2 l1 l2 in
      stepped found off w left.first left.second (arrays_in left1) (arrays_in left2) ho (hw ∙ ap (λ (a : TwoAnswer). a.answer) so) (z.first ∙ ap (λ (a : TwoAnswer). a.first) so) (z.second ∙ ap (λ (a : TwoAnswer). a.second) so)
      (z.lent1.contents ∙ ap (λ (a : TwoAnswer). a.lent1) so) (z.lent2.contents ∙ ap (λ (a : TwoAnswer). a.lent2) so)
