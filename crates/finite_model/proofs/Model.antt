-- "An integrated model then holds finite numbers only": of every window whose duration is finite and has no minus sign.
-- Each candidate has a pole and bracket ends in 0 to 1 and a finite gain, in the grid and through all rounds; a weight is the gain times what is at most 1.
use mathlib.Core.Path.{◌≡◌, refl, sym, subst}
use mathlib.Core.Bool.{Bool, true, false, not, ◌&&◌, true≢false}
use mathlib.Core.List.{List}
use Prim.Native.Nat.{ℕ, zero, suc, ◌+◌, ◌-◌, ◌^◌, zero-le}
use native.Mathlib.Nat.{le_refl, le_of_eq, le_trans, mul_comm, mul-le-mul_left, mul-le-mul_right, sub-le, add-le-add}
use native.Mathlib.Omega.{arith}
use borrow.Author.Tests.{leb-false}
use lib.Dec.{leb, ltb, lit<, lit≤}
use lib.ListN.{length}
use lib.Ieee.{Float, binary32, binary64, of_bits, add, sub, mul, neg, lt, is_nan, unlike, fits}
use lib.Ieee.Fits.{neg-fits}
use Rattle.float.specs.Values.{zero32, one32, finite, max_zero}
use Rattle.float.specs.Narrow.{narrowed}
use Rattle.float.specs.Series.{at}
use Rattle.delay.specs.declared.RateModel.{RateModel}
use Rattle.std.specs.Prelude.{Option, Some, None}
use Rattle.delay.specs.Tie.{delay_to_fit}
use Rattle.lags.specs.Lags.{lag_count, pole_of, carry_of}
use Rattle.gain.specs.declared.GainFit.{GainFit}
use Rattle.gain.specs.Gain.{first_tick, is_half, gain_of, trim_of, difference_of, varies, fit_if, is_sound, sound_fit, solved, fitted, gain_fit}
use Rattle.grid.specs.declared.LagFit.{LagFit}
use Rattle.grid.specs.Grid.{lag_fit, candidate, candidates, better_of, pick_lag, bracket_of, kept_at, low_end, high_end, pick_end, KeepsFirst}
use Rattle.grid.proofs.Keeps.{keeps_first}
use Rattle.golden.specs.declared.Refined.{Refined}
use Rattle.golden.specs.Golden.{golden, refined, tried, onward, pick_round, left_of, right_of, max_rounds, Round}
use Rattle.integrated.specs.Integrated.{model_of, modelled, no_model, chosen_from, chosen_at, searched, mean_dt, window_fit, fit_long, fit_integrated, newer_share, older_share, entries}
use Rattle.finite_model.specs.FiniteModel.{FiniteF32, FiniteModel}
use Rattle.finite_model.proofs.Multiples.{U, Of, own, held_of, counted, of_finite, add_plus, add_minus, neg_of, zero_held, NonNegative, Within, whole_within, mul_under}
use Rattle.finite_model.proofs.Trials.{ZeroToOne, one_held, trials}
use Rattle.finite_model.proofs.Poles.{mean_tick, narrowed_fits, zero_in, pole_in}

-- ---- a fit's gain is a finite f32, whatever the pole
abbrev Gains : (Float → Option GainFit) → Type 0
Gains fit = (pole : Float) (g : GainFit) → fit pole ≡ Some g → FiniteF32 g.gain

no_fit : {g : GainFit} → None ≡ Some g → ⊥
no_fit e = let z : ◌≡◌ {A = ℕ} 0 1 = cc in omega arith

second : (a b : Bool) → (a && b) ≡ true → b ≡ true
second true b e = e
second false b e = absurd (true≢false (sym e))

sound_gain : (k d : Float) (g : GainFit) → sound_fit k d ≡ Some g → FiniteF32 g.gain
unfolding sound_fit
sound_gain k d g = go (is_sound k d) refl
  where
    fit : GainFit
    fit = record { gain = narrowed k; residual = narrowed (max_zero binary64 d) }

    go : (b : Bool) → is_sound k d ≡ b → fit_if b (Some fit) ≡ Some g → FiniteF32 g.gain
    go true s e =
        let same : fit ≡ g = cc in
        subst (λ (x : GainFit). FiniteF32 x.gain) same (record { real = second (not (is_nan d)) (finite (narrowed k)) s; held = narrowed_fits k })
    go false s e = absurd (no_fit e)

solved_gain : (mm mc nn mt ct qq : Float) (g : GainFit) → solved mm mc nn mt ct qq ≡ Some g → FiniteF32 g.gain
unfolding solved
solved_gain mm mc nn mt ct qq g = go (varies mm mc nn)
  where
    go : (b : Bool) → fit_if b (sound_fit (gain_of mm mc nn mt ct) (difference_of (gain_of mm mc nn mt ct) (trim_of mm mc nn mt ct) mt ct qq)) ≡ Some g → FiniteF32 g.gain
    go true e = sound_gain (gain_of mm mc nn mt ct) (difference_of (gain_of mm mc nn mt ct) (trim_of mm mc nn mt ct) mt ct qq) g e
    go false e = absurd (no_fit e)

gains : (carry : Float) (u rate : ℕ → Float) (n s : ℕ) → Gains (gain_fit carry u rate n s)
unfolding gain_fit fitted
gains carry u rate n s pole g e = solved_gain _ _ _ _ _ _ g e

-- ---- a candidate whose pole lies in 0 to 1, with such a gain
record Good (b : LagFit) : Type 0 where
  pole : ZeroToOne b.bracket.pole
  gain : FiniteF32 b.fit.gain

better_good : (best kept : LagFit) → Good best → Good kept → Good (better_of best kept)
unfolding better_of
better_good best kept p q = go (lt kept.fit.residual best.fit.residual)
  where
    go : (b : Bool) → Good (pick_lag b kept best)
    go true = q
    go false = p

-- ---- the refinement keeps it so
golden_good : (fit : Float → Option GainFit) → Gains fit → (n : ℕ) (low high : Float) (best : LagFit) (made : ℕ) → ZeroToOne low → ZeroToOne high → Good best
    → Good (golden fit n low high best made).best
unfolding golden
golden_good fit g zero low high best made l h p = p
golden_good fit g (suc n) low high best made l h p =
    go (fit (left_of low high)) (fit (right_of low high)) refl refl (λ l h b p q r. golden_good fit g n l h b (suc made) p q r)
  where
    next : (low high : Float) → LagFit → Refined
    next low high best = golden fit n low high best (suc made)

    end : Refined
    end = record { best = best; rounds = suc made }

    pick : (b : Bool) (x y : Round) → Good (onward x next end).best → Good (onward y next end).best → Good (onward (pick_round b x y) next end).best
    pick true x y p q = p
    pick false x y p q = q

    go : (x y : Option GainFit) → fit (left_of low high) ≡ x → fit (right_of low high) ≡ y
        → ((l h : Float) (b : LagFit) → ZeroToOne l → ZeroToOne h → Good b → Good (golden fit n l h b (suc made)).best)
        → Good (onward (tried low high best x y) (λ l h b. golden fit n l h b (suc made)) (record { best = best; rounds = suc made })).best
    go None y e f more = unfold tried in p
    go (Some a) None e f more = unfold tried in p
    go (Some a) (Some b) e f more =
        let t = trials low high l h in
        unfold tried in
        pick (lt a.residual b.residual) _ _
        (more low (right_of low high) _ l t.right (better_good best _ p (record { pole = t.left; gain = g (left_of low high) a e })))
        (more (left_of low high) high _ t.left h (better_good best _ p (record { pole = t.right; gain = g (right_of low high) b f })))

-- ---- and so does the grid, with its brackets
record Bracketed (b : LagFit) : Type 0 where
  good : Good b
  low : ZeroToOne b.bracket.low
  high : ZeroToOne b.bracket.high

refined_good : (fit : Float → Option GainFit) (b : LagFit) → Gains fit → Bracketed b → Good (refined fit b).best
unfolding refined
refined_good fit b g p = golden_good fit g max_rounds b.bracket.low b.bracket.high b 0 p.low p.high p.good

module _ (dt : Float) (poles : (i : ℕ) → ZeroToOne (pole_of dt i)) where
  low_in : (i : ℕ) → ZeroToOne (low_end (pole_of dt) i)
  unfolding low_end
  low_in zero = zero_in
  low_in (suc i) = poles i

  high_in : (last i : ℕ) → ZeroToOne (high_end (pole_of dt) last i)
  high_in last i = go (ltb i last)
    where
      go : (b : Bool) → ZeroToOne (pick_end b (pole_of dt (i + 1)) (pole_of dt i))
      go true = poles (i + 1)
      go false = poles i

  one_good : (fit : Float → Option GainFit) → Gains fit → (i : ℕ) (b : LagFit) → candidates (pole_of dt) lag_count fit i ≡ Some b → Bracketed b
  one_good fit g i b e = go (fit (pole_of dt i)) refl e
    where
      go : (x : Option GainFit) → fit (pole_of dt i) ≡ x → candidate (bracket_of (pole_of dt) lag_count i) x ≡ Some b → Bracketed b
      go None f e = absurd (let z : ◌≡◌ {A = ℕ} 0 1 = cc in omega arith)
      go (Some k) f e =
          let same : lag_fit (bracket_of (pole_of dt) lag_count i) k ≡ b = cc in
          subst Bracketed same (record { good = record { pole = poles i; gain = g (pole_of dt i) k f }; low = low_in i; high = high_in lag_count i })

  kept_good : (fit : ℕ → Float → Option GainFit) (s : ℕ) (b : LagFit) → Gains (fit s) → kept_at dt fit s ≡ Some b → Bracketed b
  unfolding kept_at
  kept_good fit s b g e =
      let f = candidates (pole_of dt) lag_count (fit s) in
      let k = subst (KeepsFirst f (suc lag_count)) e (keeps_first f (suc lag_count)) in
      one_good (fit s) g k.place b k.is

-- ---- the model of such a candidate
within_finite : (s : Bool) (lo hi : ℕ) (x : Float) → Within s lo hi x → FiniteF32 x
within_finite s lo hi x w = record { real = of_finite x s w.count w.is; held = w.held }

one_of : Of one32 false U
unfolding of_bits
one_of = (refl, refl)

one_more : (x : Float) → ZeroToOne x → FiniteF32 (add binary32 one32 x)
one_more x p =
    rw (add_plus one32 x U p.count one_of p.is)
    (within_finite false 0 (U + U) _ (whole_within 0 (U + U) (U + p.count) zero_held (own 1 150 (lit< tt) (lit< tt)) zero-le (add-le-add (le_refl U) p.to)))

one_less : (x : Float) → ZeroToOne x → ZeroToOne (sub binary32 one32 x)
unfolding sub
one_less x p =
    rw (add_minus one32 (neg x) U p.count one_of (neg_of x false p.count p.is) p.to)
    (whole_within 0 U (U - p.count) zero_held one_held zero-le (sub-le U p.count))

-- share · gain · (1 - pole), for a share in 0 to 1
weighed : (share g y : Float) → ZeroToOne share → FiniteF32 g → ZeroToOne y → FiniteF32 (mul binary32 (mul binary32 share g) y)
weighed share g y p f q =
    let c = counted g f in
    let s = unlike false c.sign in
    let r = mul_under share g false c.sign p.count c.count c.count p.is c.is c.held
    (le_trans (mul-le-mul_right c.count p.to) (le_of_eq (mul_comm U c.count))) in
    within_finite (unlike s false) 0 r.count _
    (mul_under (mul binary32 share g) y s false r.count q.count r.count r.is q.is (held_of (mul binary32 share g) s r.count r.held r.is) (mul-le-mul_left r.count q.to))

half_in : ZeroToOne (of_bits binary32 0x3f00_0000)
unfolding of_bits fits
half_in = record { count = 2 ^ 148; is = (refl, refl); held = tt; from = zero-le; to = lit≤ tt }

newer_in : (h : ℕ) → ZeroToOne (newer_share h)
unfolding of_bits fits
newer_in zero = record { count = U; is = one_of; held = tt; from = zero-le; to = le_refl U }
newer_in (suc h) = half_in

older_in : (h : ℕ) → ZeroToOne (older_share h)
older_in zero = zero_in
older_in (suc h) = half_in

model_finite : (b : LagFit) (p : ℕ) (dt : Float) → Good b → FiniteF32 dt → FiniteModel (model_of b p dt)
unfolding model_of
model_finite b p dt g t =
    let h = is_half (p - 1) in
    let pole = b.bracket.pole in let gain = b.fit.gain in
    let rest = one_less pole g.pole in
    record {
      r1 = one_more pole g.pole;
      r2 = record { real = of_finite (neg pole) true g.pole.count (neg_of pole false g.pole.count g.pole.is); held = neg-fits binary32 pole g.pole.held };
      m0 = weighed (newer_share h) gain (sub binary32 one32 pole) (newer_in h) g.gain rest;
      m1 = weighed (older_share h) gain (sub binary32 one32 pole) (older_in h) g.gain rest;
      m2 = within_finite false 0 U zero32 zero_in;
      dt_s = t;
    }

-- ---- the law
abbrev Holds : Option RateModel → Type 0
Holds None = Unit {0}
Holds (Some m) = FiniteModel m

module _ (dt : Float) (k : ℕ) (t : Within false 0 k dt) (fit : ℕ → Float → Option GainFit) (g : (s : ℕ) → Gains (fit s)) where
  from_kept : (p : ℕ) (k : Option LagFit) → kept_at dt fit (p - 1) ≡ k → Holds (chosen_from k (fit (p - 1)) p dt).model
  unfolding chosen_from modelled no_model
  from_kept p None e = tt
  from_kept p (Some b) e =
      let s = p - 1 in
      model_finite (refined (fit s) b).best p dt (refined_good (fit s) b (g s) (kept_good dt (pole_in dt k t) fit s b (g s) e)) (within_finite false 0 k dt t)

  from_position : (q : Option ℕ) → Holds (chosen_at q dt fit).model
  unfolding chosen_at no_model
  from_position None = tt
  from_position (Some p) = from_kept p (kept_at dt fit (p - 1)) refl

  searched_finite : Holds (searched dt fit).model
  unfolding searched
  searched_finite = from_position (delay_to_fit zero32 (entries (kept_at dt fit)))

window_gains : (rates moments : List Float) (dt : Float) (n s : ℕ) → Gains (window_fit rates moments dt n s)
unfolding window_fit
window_gains rates moments dt n s = gains (carry_of dt) (at moments) (at rates) (n - first_tick) s

all_finite : (rates moments : List Float) (duration : Float) → NonNegative duration → Holds (fit_integrated rates moments duration).model
unfolding fit_integrated fit_long no_model
all_finite rates moments duration d = go (leb (length rates) (first_tick + 1)) refl
  where
    go : (b : Bool) → leb (length rates) (first_tick + 1) ≡ b → Holds (fit_long b rates moments duration (length rates)).model
    go true e = tt
    go false e =
        let n = length rates in
        let dt = mean_dt duration n in
        let t = mean_tick duration n d (let l = leb-false n (first_tick + 1) e in omega arith) in
        searched_finite dt t.0 t.1 (window_fit rates moments dt n) (window_gains rates moments dt n)

pub integrated_finite : (rates moments : List Float) (duration : Float) (m : RateModel) → NonNegative duration → (fit_integrated rates moments duration).model ≡ Some m → FiniteModel m
integrated_finite rates moments duration m d e = subst Holds e (all_finite rates moments duration d)
