-- The functions' returns as the definitions say them, of any kind of plain flight: a refused opening and one that is made; a call that 10 turns back, and the call itself; the
-- bytes of marks. Of a word of 0 they are the plain ones.
use mathlib.Core.Path.{◌≡◌, refl, sym, ap, ◌∙◌}
use Rattle.std.specs.Prelude.{ℕ, zero, suc, ◌<◌, Bool, true, false, cond, leb, Result, Ok, Err, List, Float}
use native.Mathlib.Omega.{arith}
use lib.Dec.{leb→le}
use Rattle.float.specs.Values.{zero32}
use Rattle.account.specs.declared.IdentifyConfig.{IdentifyConfig}
use Rattle.rules.specs.declared.Rule.{Rule}
use Rattle.rules.specs.declared.Rule.TheVariants.{Form, UnevenDt}
use Rattle.rules.specs.Numbers.{number_of, numbered}
use Rattle.rules.proofs.Numbers.{above_0}
use Rattle.steady.specs.declared.Band.TheVariants.{Plain}
use Rattle.steady.specs.declared.SteadyClock.{SteadyClock}
use Rattle.steady.specs.Band.{turns_back, uneven}
use Rattle.steady.specs.Kept.{band_in, first_after, clock, opened_clock, clock_band, clock_after}
use Rattle.steady.proofs.Guarded.{none_back}
use Rattle.steady.proofs.Kept.{plain_first}
use Rattle.live_probe.specs.Live.{Opening, opening, Flight, flight}
use Rattle.steady_probe.specs.Behind.{Kind, SteadyOpening, steady_opening, start_in, SteadyFlight, steady_flight, readied_behind, open_behind, kept_step, step_behind}

-- by whether a test holds
pub by_test : {A : Type 0} (b : Bool) → (b ≡ true → A) → (b ≡ false → A) → A
by_test true f g = f refl
by_test false f g = g refl

over_one : (options : ℕ) → 1 < options → leb options 1 ≡ false
over_one options h = go (leb options 1) refl
  where
    go : (b : Bool) → leb options 1 ≡ b → b ≡ false
    go true e = absurd (let r = leb→le options 1 (rw e tt) in omega arith)
    go false e = refl

-- ---- marks
module _ (w : SteadyClock) (running : Bool) (dt : Float) (plain bytes : List ℕ) where
  pub left_alone : turns_back (clock_band w) running dt ≡ true → bytes ≡ readied_behind w running dt plain bytes
  unfolding readied_behind
  left_alone h = rw h

  pub readies : turns_back (clock_band w) running dt ≡ false → plain ≡ readied_behind w running dt plain bytes
  unfolding readied_behind
  readies h = rw h

pub readies_plain : (w : SteadyClock) (running : Bool) (dt : Float) (plain bytes : List ℕ) → w.steady ≡ 0 → readied_behind w running dt plain bytes ≡ plain
unfolding readied_behind band_in uneven
readies_plain w running dt plain bytes h = rw (h, none_back running dt Plain refl) refl

module _ (P : Kind) where
  -- ---- open
  module _ (c : IdentifyConfig) (s : P.Scalars) (options : ℕ) (found : SteadyClock) where
    abbrev Told : Bool → Opening P.Scalars → SteadyOpening P.Scalars
    Told b o = cond b (start_in o.result options found o) (steady_opening (opening 9 s) found)

    abbrev Test : Bool → Result SteadyClock Rule
    Test b = cond b (Ok (clock options zero32)) (Err Form)

    unknown_by : (b : Bool) (o : Opening P.Scalars) (e : Rule) → Test b ≡ Err e → steady_opening (opening (number_of e) s) found ≡ Told b o
    unfolding number_of
    unknown_by true o e h = absurd (cc)
    unknown_by false o e h = let same : Form ≡ e = cc in rw (← same) refl

    refused_by : (b : Bool) (o : Opening P.Scalars) (w : SteadyClock) (n : ℕ) → Test b ≡ Ok w → o.result ≡ suc n → steady_opening o found ≡ Told b o
    unfolding start_in
    refused_by true o w n h z = rw z refl
    refused_by false o w n h z = absurd (cc)

    made_by : (b : Bool) (o : Opening P.Scalars) (w : SteadyClock) → Test b ≡ Ok w → o.result ≡ 0 → steady_opening o w ≡ Told b o
    unfolding start_in
    made_by true o w h z = let same : clock options zero32 ≡ w = cc in rw (z, same) refl
    made_by false o w h z = absurd (cc)

    pub unknown : (e : Rule) → opened_clock options ≡ Err e → steady_opening (opening (number_of e) s) found ≡ open_behind P options c s found
    unfolding opened_clock open_behind
    unknown e h = unknown_by (leb options 1) (P.opens 0 c s) e h

    pub turned_away : (w : SteadyClock) (e : Rule) (t : P.Scalars) → opened_clock options ≡ Ok w → opening (number_of e) t ≡ P.opens 0 c s
        → steady_opening (opening (number_of e) t) found ≡ open_behind P options c s found
    unfolding opened_clock open_behind
    turned_away w e t h is =
        ap (λ (o : Opening P.Scalars). steady_opening o found) is ∙ refused_by (leb options 1) (P.opens 0 c s) w _ h (ap (λ (o : Opening P.Scalars). o.result) (sym is) ∙ above_0 e)

    pub opened : (w : SteadyClock) (t : P.Scalars) → opened_clock options ≡ Ok w → opening 0 t ≡ P.opens 0 c s → steady_opening (opening 0 t) w ≡ open_behind P options c s found
    unfolding opened_clock open_behind
    opened w t h is =
        ap (λ (o : Opening P.Scalars). steady_opening o w) is ∙ made_by (leb options 1) (P.opens 0 c s) w h (ap (λ (o : Opening P.Scalars). o.result) (sym is))

  started : (n options : ℕ) (found : SteadyClock) (o : Opening P.Scalars) → (start_in n options found o).opening ≡ o
  unfolding start_in
  started zero options found o = refl
  started (suc n) options found o = refl

  pub opens_plain : ((options : ℕ) (c : IdentifyConfig) (s : P.Scalars) → opening 9 s ≡ P.opens (suc options) c s)
      → (c : IdentifyConfig) (s : P.Scalars) (options : ℕ) (found w : SteadyClock) (o : Opening P.Scalars)
      → steady_opening o w ≡ open_behind P options c s found → (options ≡ 1 → ⊥) → o ≡ P.opens options c s
  unfolding open_behind
  opens_plain nine c s zero found w o e h = ap (λ (q : SteadyOpening P.Scalars). q.opening) e ∙ started (P.opens 0 c s).result 0 found (P.opens 0 c s)
  opens_plain nine c s (suc zero) found w o e h = absurd (h refl)
  opens_plain nine c s (suc (suc options)) found w o e h =
      ap (λ (q : SteadyOpening P.Scalars). q.opening) e ∙ rw (over_one (suc (suc options)) (omega arith)) (nine (suc options) c s)

  -- ---- step
  module _ (w : SteadyClock) (k next : P.Kept) (y : P.Call) (n : ℕ) (found x : P.Offset) where
    abbrev turned : Bool
    turned = turns_back (clock_band w) (P.runs k) (P.dt_of y)

    abbrev ends : Flight P.Offset P.Kept → SteadyFlight P.Offset P.Kept
    ends f = steady_flight f (clock_after f.result (P.runs k) (P.dt_of y) w)

    tested : (b : Bool) → (b ≡ true → flight n x next ≡ flight 10 found k) → (b ≡ false → flight n x next ≡ P.steps k y found)
        → ends (flight n x next) ≡ cond b (steady_flight (flight 10 found k) w) (kept_step P w k y found)
    unfolding first_after
    tested true back made = ap ends (back refl)
    tested false back made = ap ends (made refl)

    -- what stands behind the test: a call that it turns back changes nothing, any other is made, and then the clock is kept
    pub guarded : (turned ≡ true → flight n x next ≡ flight 10 found k) → (turned ≡ false → flight n x next ≡ P.steps k y found)
        → ends (flight n x next) ≡ step_behind P w k y found
    unfolding step_behind
    guarded back made = tested turned back made

  -- the same of an answer r, as `guard` ensures it
  pub guard_says : {A : Type 0} (w later : SteadyClock) (running : Bool) (k next : P.Kept) (y : P.Call) (r : Result A Rule) (found x : P.Offset) → running ≡ P.runs k → (r ≡ Err UnevenDt → x ≡ found)
      → (turns_back (clock_band w) running (P.dt_of y) ≡ true → (r ≡ Err UnevenDt) × (next ≡ k))
      → (turns_back (clock_band w) running (P.dt_of y) ≡ false → flight (numbered r) x next ≡ P.steps k y found)
      → later ≡ clock_after (numbered r) running (P.dt_of y) w → steady_flight (flight (numbered r) x next) later ≡ step_behind P w k y found
  unfolding numbered number_of
  guard_says w later running k next y r found x is stays back made kept =
      rw (kept, is)
      (guarded w k next y (numbered r) found x
      (λ h. let b = back (rw is h) in rw (stays b.0, b.0, b.1) refl)
      (λ h. made (rw is h)))

  as_plain : (w : SteadyClock) (k : P.Kept) (y : P.Call) (found : P.Offset) → w.steady ≡ 0 → step_behind P w k y found ≡ steady_flight (P.steps k y found) w
  unfolding step_behind band_in uneven
  as_plain w k y found h = rw (h, none_back (P.runs k) (P.dt_of y) Plain refl, plain_first (P.steps k y found).result (P.runs k) w.first_dt_s (P.dt_of y)) refl

  pub steps_plain : (w later : SteadyClock) (k : P.Kept) (y : P.Call) (found : P.Offset) (f : Flight P.Offset P.Kept)
      → steady_flight f later ≡ step_behind P w k y found → w.steady ≡ 0 → (f ≡ P.steps k y found) × (later.first_dt_s ≡ w.first_dt_s)
  steps_plain w later k y found f e h =
      let s = e ∙ as_plain w k y found h in
      (ap (λ (z : SteadyFlight P.Offset P.Kept). z.flight) s, ap (λ (z : SteadyFlight P.Offset P.Kept). z.clock.first_dt_s) s)
