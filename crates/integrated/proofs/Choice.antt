-- From a table of what the steps keep to the definition's answer, by the position that wins.
use Rattle.std.proofs.Common.{◌≡◌, ℕ, ◌-◌, ◌≤◌, min, List, length, get_or, map, replicate, ◌<◌, refl, sym, ap, ◌∙◌, arith}
use Rattle.std.proofs.lemmas.List.{get_or-map, length-map}
use Rattle.std.proofs.Math.Seq.{ext_get_or}
use lib.ListN.{length-replicate}
use lib.Ieee.{Float}
use Rattle.float.specs.Values.{zero32}
use Rattle.float.specs.Series.{at}
use Rattle.delay.specs.declared.Entry.{Entry}
use Rattle.std.specs.Prelude.{Option, Some, None}
use Rattle.delay.specs.Tie.{entry_count, delay_to_fit}
use Rattle.delay.proofs.Winner.{won}
use Rattle.lags.specs.Lags.{carry_of}
use Rattle.gain.specs.declared.GainFit.{GainFit}
use Rattle.gain.specs.declared.Shared.{Shared}
use Rattle.gain.specs.Gain.{first_tick, step_count, gain_fit}
use Rattle.gain.specs.Prepared.{fit_with, Prepared}
use Rattle.float.proofs.Fill.{length_fill, filled}
use Rattle.gain.proofs.Window.{fit_of_window}
use Rattle.grid.specs.declared.LagFit.{LagFit}
use Rattle.grid.specs.Grid.{kept_at}
use Rattle.integrated.specs.Integrated.{entry_of, entries, grid_fits, no_model, chosen_from, chosen_at, searched, window_fit}
use Rattle.grid.specs.Steps.{table_of}
use Rattle.grid.proofs.Tables.{table_at, table_long}

-- the tie rule's list of a table
entries_of : (kept : ℕ → Option LagFit) → map entry_of (table_of kept) ≡ entries kept
unfolding entries
entries_of kept =
    let l : length (map entry_of (table_of kept)) ≡ step_count = rw length-map (table_long kept) in
    let none : List (Option Entry) = replicate entry_count None in
    let f = λ (s : ℕ) (l : List (Option Entry)). entry_of (kept s) in
    ext_get_or None _ _ (l ∙ sym (length_fill f none step_count ∙ length-replicate {A = Option Entry} entry_count None)) (λ s p.
    let h : s < step_count = rw l at p in
    get_or-map entry_of (table_of kept) s None None (rw (table_long kept) h) ∙ ap entry_of (table_at kept s h)
    ∙ sym (filled f none None step_count s (rw length-replicate (omega arith)) h))

-- with the leaky series prepared, the fit at each step and pole is the window's
pub window_is : (rates moments : List Float) (dt carry : Float) (n : ℕ) (cs₀ ts₀ cs ts : List Float) (w : Shared) → n ≤ 2048 → n - first_tick ≤ length cs₀ → n - first_tick ≤ length ts₀
    → carry ≡ carry_of dt → Prepared carry (at rates) (min n 2048 - first_tick) cs₀ ts₀ cs ts w → fit_with w (at moments) (at cs) (at ts) ≡ window_fit rates moments dt n
unfolding window_fit
window_is rates moments dt carry n cs₀ ts₀ cs ts w h hc ht e p =
    let m : min n 2048 ≡ n = omega arith in
    λ j. λ s pole.
    (fit_of_window carry (at moments) (at rates) (n - first_tick) cs₀ ts₀ cs ts w (omega arith) hc ht (rw m at p) s pole ∙ ap (λ (z : Float). gain_fit z (at moments) (at rates) (n - first_tick) s pole) e) j

module _ (dt : Float) (fit : ℕ → Float → Option GainFit) (kept : List (Option LagFit)) (list : List (Option Entry)) (k : kept ≡ table_of (kept_at dt fit))
    (l : list ≡ map entry_of kept) where
  listed : list ≡ entries (kept_at dt fit)
  listed = l ∙ rw k (entries_of (kept_at dt fit))

  pub nowhere : delay_to_fit zero32 list ≡ None → no_model grid_fits ≡ searched dt fit
  unfolding searched chosen_at
  nowhere e = rw (← listed, e) refl

  pub at_position : (p : ℕ) → delay_to_fit zero32 list ≡ Some p → chosen_from (get_or kept (p - 1) None) (fit (p - 1)) p dt ≡ searched dt fit
  unfolding searched chosen_at
  at_position p e =
      let w = won zero32 list p e in
      rw (← listed, e, k, table_at (kept_at dt fit) (p - 1) (omega (arith, w.from_one, w.in_list))) refl
