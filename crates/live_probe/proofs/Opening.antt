-- What an opening answers, by its tests: the options, and what the configuration opens.
use Prim.Native.Nat.{ℕ, zero, suc}
use mathlib.Core.Path.{◌≡◌, refl, sym}
use native.Mathlib.Omega.{arith}
use Rattle.account.specs.declared.IdentifyConfig.{IdentifyConfig}
use Rattle.account.specs.Rules.{broken}
use Rattle.identify.specs.declared.IdentifyProbe.{IdentifyProbe}
use Rattle.std.specs.Prelude.{Ok, Err}
use Rattle.identify.specs.Seen.{fresh_probe, opened_by}
use Rattle.probe_words.specs.Layout.{Scalars, scalars_of}
use Rattle.live_probe.specs.Live.{opening, open_by, live_open}

module _ (c : IdentifyConfig) (s : Scalars) where
  refused_by : (b n : ℕ) → opened_by b c ≡ Err n → open_by b c s ≡ opening n s
  unfolding opened_by open_by
  refused_by zero n h = absurd (let z : ◌≡◌ {A = ℕ} 0 1 = cc in omega arith)
  refused_by (suc b) n h = let same : suc b ≡ n = cc in rw same

  opens_so : (b : ℕ) (p : IdentifyProbe) → opened_by b c ≡ Ok p → open_by b c s ≡ opening 0 (scalars_of p)
  unfolding opened_by open_by
  opens_so zero p h = let same : p ≡ fresh_probe c = cc in rw same
  opens_so (suc b) p h = absurd (let z : ◌≡◌ {A = ℕ} 0 1 = cc in omega arith)

  pub unknown : (options : ℕ) → (options ≡ 0 → ⊥) → opening 9 s ≡ live_open options c s
  unfolding live_open
  unknown zero n = absurd (n refl)
  unknown (suc options) n = refl

  module _ (options : ℕ) (e : options ≡ 0) where
    pub turned_away : (n : ℕ) → opened_by (broken c) c ≡ Err n → opening n s ≡ live_open options c s
    unfolding live_open
    turned_away n h = rw e (sym (refused_by (broken c) n h))

    pub opens : (p : IdentifyProbe) → opened_by (broken c) c ≡ Ok p → opening 0 (scalars_of p) ≡ live_open options c s
    unfolding live_open
    opens p h = rw e (sym (opens_so (broken c) p h))
