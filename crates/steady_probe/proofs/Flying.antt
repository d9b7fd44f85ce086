-- What is flown behind the test was flown, plain, by the calls that 10 did not turn back: a call that it turns back leaves all as it was, and any other is the plain call.
-- Once for any kind of plain flight that follows a plain probe of the definitions.
use mathlib.Core.Path.{◌≡◌, refl, sym, ap, ap₂, subst, ◌∙◌}
use Rattle.std.specs.Prelude.{ℕ, zero, suc, Bool, true, false, cond, eqb, leb, Result, List, [], ◌∷◌, ◌++◌, length, Float}
use mathlib.Core.List.{foldl, append-nil}
use native.Mathlib.Omega.{arith}
use Rattle.std.specs.Float.Ieee.{lt}
use Rattle.float.specs.Values.{zero32}
use Rattle.account.specs.declared.IdentifyConfig.{IdentifyConfig}
use Rattle.steady.specs.declared.Band.{Band}
use Rattle.steady.specs.declared.SteadyClock.{SteadyClock}
use Rattle.steady.specs.Band.{turns_back}
use Rattle.steady.specs.Guarded.{Guarded, band_after, without, number_in, next_in, after_in, numbers_in}
use Rattle.steady.specs.Kept.{band_in, first_after, clock, clock_band}
use Rattle.steady.proofs.Guarded.{left}
use Rattle.steady.proofs.Ends.{numbers_more, after_more, length_numbers, kept_end}
use Rattle.steady.proofs.Kept.{band_kept}
use Rattle.live_probe.specs.Live.{over, Opening, opening, Flight, flight, value_or}
use Rattle.rules.specs.declared.Rule.{Rule}
use Rattle.rules.specs.Numbers.{numbered}
use Rattle.steady_probe.specs.Behind.{Kind, SteadyOpening, steady_opening, start_in, SteadyFlight, steady_flight, start, open_behind, kept_step, step_behind, FlownBehind, by_open, by_step, FliesBehind, OpensBehind, AnswersOpening, OpensAnswering, FliesOnBehind, OpensPlain, StepsPlain}
use Rattle.steady_probe.proofs.Behind.{opens_plain, steps_plain}

-- a plain probe of the definitions, and when a number and an offset are what it answers
pub record Model (P : Kind) : Type 1 where
  pub State : Type 0
  pub fresh : IdentifyConfig → State
  pub runs : State → Bool
  pub number : State → P.Call → ℕ
  pub next : State → P.Call → State
  pub Replies : ℕ → P.Offset → State → P.Call → Type 0

module _ {P : Kind} (M : Model P) where
  abbrev pub begun : Band → IdentifyConfig → Guarded M.State
  begun b c = record { inner = M.fresh c; band = b }

  abbrev pub after : Band → IdentifyConfig → List P.Call → Guarded M.State
  after b c calls = after_in M.runs P.dt_of M.number M.next (begun b c) calls

  abbrev pub N : Band → IdentifyConfig → List P.Call → List ℕ
  N b c calls = numbers_in M.runs P.dt_of M.number M.next (begun b c) calls

  abbrev pub Turned : Band → IdentifyConfig → List P.Call → P.Call → Bool
  Turned b c calls y = let g = after b c calls in turns_back g.band (M.runs g.inner) (P.dt_of y)

-- what the proof asks of it
pub record Follows {P : Kind} (M : Model P) : Type 0 where
  -- no rule of its own has the number 10, and an accepted dt is above 0
  pub not_ten : (m : M.State) (y : P.Call) → eqb (M.number m y) 10 ≡ false
  pub above : (m : M.State) (y : P.Call) → M.number m y ≡ 0 → lt zero32 (P.dt_of y) ≡ true
  pub numbered : (n : ℕ) (x : P.Offset) (m : M.State) (y : P.Call) → M.Replies n x m y → n ≡ M.number m y
  -- an option of the plain opening has no meaning
  pub nine : (options : ℕ) (c : IdentifyConfig) (s : P.Scalars) → P.opens (suc options) c s ≡ opening 9 s
  -- what is flown plain runs and answers as it does
  pub opens : (c : IdentifyConfig) (s t : P.Scalars) (l : P.Arrays) → opening 0 t ≡ P.opens 0 c s → P.Whole l → P.Flown c [] P.none (P.kept t l)
  pub steps : (c : IdentifyConfig) (calls : List P.Call) (answers : P.Answers) (k next : P.Kept) (n : ℕ) (found x : P.Offset) (y : P.Call) → P.Flown c calls answers k
      → flight n x next ≡ P.steps k y found → P.Flown c (calls ++ (y ∷ [])) (P.more answers n x) next
  pub runs : (c : IdentifyConfig) (calls : List P.Call) (answers : P.Answers) (k : P.Kept) → P.Flown c calls answers k → P.runs k ≡ M.runs (foldl M.next (M.fresh c) calls)
  pub replies : (c : IdentifyConfig) (calls : List P.Call) (answers : P.Answers) (k next : P.Kept) (n : ℕ) (found x : P.Offset) (y : P.Call) → P.Flown c calls answers k
      → flight n x next ≡ P.steps k y found → M.Replies n x (foldl M.next (M.fresh c) calls) y
  pub flies : (c : IdentifyConfig) (calls : List P.Call) (answers : P.Answers) (k : P.Kept) → P.Flown c calls answers k → P.Flies c calls answers k
  -- the answers to no call, and to one call more
  pub even_none : P.even [] P.none ≡ P.none
  pub even_more : (b : Band) (c : IdentifyConfig) (calls : List P.Call) (answers : P.Answers) (j n : ℕ) (x : P.Offset) → P.Same answers (P.replies b c calls)
      → P.even (N M b c calls ++ (j ∷ [])) (P.more answers n x) ≡ cond (eqb j 10) (P.even (N M b c calls) answers) (P.more (P.even (N M b c calls) answers) n x)
  pub same_none : (b : Band) (c : IdentifyConfig) → P.Same P.none (P.replies b c [])
  pub same_turned : (b : Band) (c : IdentifyConfig) (calls : List P.Call) (answers : P.Answers) (x : P.Offset) (y : P.Call) → P.Same answers (P.replies b c calls)
      → Turned M b c calls y ≡ true → P.Same (P.more answers 10 x) (P.replies b c (calls ++ (y ∷ [])))
  pub same_taken : (b : Band) (c : IdentifyConfig) (calls : List P.Call) (answers : P.Answers) (n : ℕ) (x : P.Offset) (y : P.Call) → P.Same answers (P.replies b c calls)
      → Turned M b c calls y ≡ false → M.Replies n x (after M b c calls).inner y → P.Same (P.more answers n x) (P.replies b c (calls ++ (y ∷ [])))
  -- the claim, with the account's numbers and its band
  pub accounted : (b : Band) (c : IdentifyConfig) (calls : List P.Call) → P.Accounted b c calls
  pub alike : (b : Band) (c : IdentifyConfig) (calls : List P.Call) → (N M b c calls ≡ P.turned b c calls) × ((after M b c calls).band ≡ P.band b c calls)

-- one more at the end of a list, or none
pub end_by : {A : Type 0} (t : Bool) (l : List A) (x : A) → l ++ cond t [] (x ∷ []) ≡ cond t l (l ++ (x ∷ []))
end_by true l x = append-nil l
end_by false l x = refl

-- ---- an opening that answered 0
opens_so : {S : Type 0} (n : ℕ) (o : Opening S) (options : ℕ) (found : SteadyClock) (q : SteadyOpening S) → q ≡ start_in n options found o → n ≡ o.result → q.opening.result ≡ 0
    → (q.opening ≡ o) × (q.clock.first_dt_s ≡ zero32)
unfolding start_in
opens_so {S} zero o options found q e h z = (ap (λ (p : SteadyOpening S). p.opening) e, ap (λ (p : SteadyOpening S). p.clock.first_dt_s) e)
opens_so {S} (suc n) o options found q e h z = absurd (let r : q.opening.result ≡ o.result = ap (λ (p : SteadyOpening S). p.opening.result) e in omega arith)

opens_by : {S : Type 0} (b : Bool) (o nine : Opening S) (options : ℕ) (found : SteadyClock) (q : SteadyOpening S) → nine.result ≡ 9
    → q ≡ cond b (start_in o.result options found o) (steady_opening nine found) → q.opening.result ≡ 0 → (q.opening ≡ o) × (q.clock.first_dt_s ≡ zero32)
opens_by true o nine options found q k e z = opens_so o.result o options found q e refl z
opens_by {S} false o nine options found q k e z = absurd (let r : q.opening.result ≡ nine.result = ap (λ (p : SteadyOpening S). p.opening.result) e in omega arith)

-- ---- the invariant
record Sound {P : Kind} (M : Model P) (c : IdentifyConfig) (steady : ℕ) (calls : List P.Call) (answers : P.Answers) (k : P.Kept) (first : Float) : Type 0 where
  flown : P.Flown c (without 10 (N M (start steady) c calls) calls) (P.even (N M (start steady) c calls) answers) k
  tested : band_in steady first ≡ (after M (start steady) c calls).band
  answered : P.Same answers (P.replies (start steady) c calls)

module _ {P : Kind} (M : Model P) (W : Follows M) where
  -- one call more
  module _ (c : IdentifyConfig) (steady : ℕ) (calls : List P.Call) (answers : P.Answers) (k next : P.Kept) (first later : Float) (n : ℕ) (found x : P.Offset) (y : P.Call)
      (s : Sound M c steady calls answers k first) where
    abbrev b : Band
    b = start steady

    abbrev g : Guarded M.State
    g = after M b c calls

    abbrev ns : List ℕ
    ns = N M b c calls

    abbrev evens : List P.Call
    evens = without 10 ns calls

    inner : g.inner ≡ foldl M.next (M.fresh c) evens
    inner = left M.runs P.dt_of M.number M.next W.not_ten calls (begun M b c)

    running : P.runs k ≡ M.runs g.inner
    running = W.runs c evens (P.even ns answers) k s.flown ∙ ap M.runs (sym inner)

    same : turns_back (band_in steady first) (P.runs k) (P.dt_of y) ≡ Turned M b c calls y
    same = ap₂ (λ (d : Band) (r : Bool). turns_back d r (P.dt_of y)) s.tested running

    lengths : length ns ≡ length calls
    lengths = length_numbers M.runs P.dt_of M.number M.next calls (begun M b c)

    abbrev F : Type 0
    F = SteadyFlight P.Offset P.Kept

    abbrev Ends : Type 0
    Ends = Sound M c steady (calls ++ (y ∷ [])) (P.more answers n x) next later

    numbers : (t : Bool) → Turned M b c calls y ≡ t → N M b c (calls ++ (y ∷ [])) ≡ ns ++ (cond t 10 (M.number g.inner y) ∷ [])
    unfolding number_in
    numbers t h = numbers_more M.runs P.dt_of M.number M.next y calls (begun M b c) ∙ ap (λ (u : Bool). ns ++ (cond u 10 (M.number g.inner y) ∷ [])) h

    turned_back : Turned M b c calls y ≡ true → steady_flight (flight n x next) (clock steady later) ≡ steady_flight (flight 10 found k) (clock steady first) → Ends
    unfolding next_in
    turned_back h e = record {
      flown =
          rw (numbers true h, kept_end 10 10 y ns calls lengths, W.even_more b c calls answers 10 n x s.answered, append-nil, ap (λ (z : F). z.flight.left) e)
          s.flown;
      tested = rw (after_more M.runs P.dt_of M.number M.next y calls (begun M b c), h, ap (λ (z : F). z.clock.first_dt_s) e) s.tested;
      answered = rw (ap (λ (z : F). z.flight.result) e) (W.same_turned b c calls answers x y s.answered h);
    }

    taken : Turned M b c calls y ≡ false → steady_flight (flight n x next) (clock steady later) ≡ kept_step P (clock steady first) k y found → Ends
    unfolding next_in
    taken h e =
        let is : flight n x next ≡ P.steps k y found = ap (λ (z : F). z.flight) e in
        let reply : M.Replies n x g.inner y = subst (λ (m : M.State). M.Replies n x m y) (sym inner) (W.replies c evens (P.even ns answers) k next n found x y s.flown is) in
        let own : n ≡ M.number g.inner y = W.numbered n x g.inner y reply in
        let kept : band_in steady later ≡ band_after (M.number g.inner y) (M.runs g.inner) g.band (P.dt_of y) =
        ap (band_in steady) (ap (λ (z : F). z.clock.first_dt_s) e ∙ ap (λ (m : ℕ). first_after m (P.runs k) (band_in steady first) first (P.dt_of y)) (sym (ap (λ (z : Flight P.Offset P.Kept). z.result) is)))
        ∙ band_kept steady n (P.runs k) first (P.dt_of y) (λ z. W.above g.inner y (sym own ∙ z))
        ∙ rw (own, running, s.tested) refl in
        record {
          flown =
              rw (numbers false h, kept_end 10 (M.number g.inner y) y ns calls lengths, W.even_more b c calls answers (M.number g.inner y) n x s.answered, W.not_ten g.inner y)
              (W.steps c evens (P.even ns answers) k next n found x y s.flown is);
          tested = rw (after_more M.runs P.dt_of M.number M.next y calls (begun M b c), h) kept;
          answered = W.same_taken b c calls answers n x y s.answered h reply;
        }

    goes_on : (t : Bool) → Turned M b c calls y ≡ t
        → steady_flight (flight n x next) (clock steady later) ≡ cond t (steady_flight (flight 10 found k) (clock steady first)) (kept_step P (clock steady first) k y found) → Ends
    goes_on true h e = turned_back h e
    goes_on false h e = taken h e

    step_sound : steady_flight (flight n x next) (clock steady later) ≡ step_behind P (clock steady first) k y found → Ends
    unfolding step_behind
    step_sound e =
        goes_on (Turned M b c calls y) refl (e ∙ ap (λ (t : Bool). cond t (steady_flight (flight 10 found k) (clock steady first)) (kept_step P (clock steady first) k y found)) same)

  open_sound : (c : IdentifyConfig) (steady options : ℕ) (found : SteadyClock) (s t : P.Scalars) (first : Float) (l : P.Arrays)
      → steady_opening (opening 0 t) (clock steady first) ≡ open_behind P options c s found → P.Whole l → Sound M c steady [] P.none (P.kept t l) first
  unfolding open_behind numbers_in without
  open_sound c steady options found s t first l e w =
      let o = opens_by (leb options 1) (P.opens 0 c s) (opening 9 s) options found (steady_opening (opening 0 t) (clock steady first)) refl e refl in
      record {
        flown = rw W.even_none (W.opens c s t l o.0 w);
        tested = ap (band_in steady) o.1;
        answered = W.same_none (start steady) c;
      }

  sound : {c : IdentifyConfig} {steady : ℕ} {calls : List P.Call} {answers : P.Answers} {k : P.Kept} {first : Float} → FlownBehind P c steady calls answers k first → Sound M c steady calls answers k first
  sound {c} {steady} (by_open options found s {t} {first} {l} e w) = open_sound c steady options found s t first l e w
  sound {c} {steady} (by_step {calls} {answers} {k} {next} {first} {later} {n} {x} found y f e) = step_sound c steady calls answers k next first later n found x y (sound f) e

  -- what is flown, as the account says it
  pub flies_behind : (c : IdentifyConfig) (steady : ℕ) (calls : List P.Call) (answers : P.Answers) (k : P.Kept) (first : Float) → FlownBehind P c steady calls answers k first
      → FliesBehind P c steady calls answers k first
  flies_behind c steady calls answers k first f =
      let s = sound f in
      let e = W.alike (start steady) c calls in
      let h : P.Flown c (without 10 (P.turned (start steady) c calls) calls) (P.even (P.turned (start steady) c calls) answers) k = rw e.0 at s.flown in
      record {
        accounted = W.accounted (start steady) c calls;
        tested = s.tested ∙ e.1;
        answered = s.answered;
        flown = h;
        flies = W.flies c _ _ k h;
      }

  -- ---- as the contracts of the calls ensure it
  pub begun_behind : (options : ℕ) (c : IdentifyConfig) (s t : P.Scalars) (found w : SteadyClock) (n : ℕ) → steady_opening (opening n t) w ≡ open_behind P options c s found
      → OpensBehind P c (over s t) (over found w) n
  begun_behind options c s t found w n e z l whole = flies_behind c w.steady [] P.none (P.kept t l) w.first_dt_s (by_open options found s (rw z at e) whole)

  plain_flies : (c : IdentifyConfig) (s t : P.Scalars) (options n : ℕ) → opening n t ≡ P.opens options c s → n ≡ 0 → (l : P.Arrays) → P.Whole l → P.Flies c [] P.none (P.kept t l)
  plain_flies c s t zero n e z l whole = W.flies c [] P.none (P.kept t l) (W.opens c s t l (rw z at e) whole)
  plain_flies c s t (suc options) n e z l whole = absurd (let nine : n ≡ 9 = ap (λ (q : Opening P.Scalars). q.result) (e ∙ W.nine options c s) in omega arith)

  pub plain_behind : (options : ℕ) (c : IdentifyConfig) (s t : P.Scalars) (found w : SteadyClock) (n : ℕ) → steady_opening (opening n t) w ≡ open_behind P options c s found
      → (options ≡ 1 → ⊥) → OpensPlain P options c (over s t) n
  plain_behind options c s t found w n e h =
      let o = opens_plain P (λ o c s. sym (W.nine o c s)) c s options found w (opening n t) e h in
      record { opened = o; flown = plain_flies c s t options n o }

  -- an opening that answers the clock in r
  module _ (options : ℕ) (c : IdentifyConfig) (s t : P.Scalars) (r : Result SteadyClock Rule) (told : AnswersOpening P options c (over s t) r) where
    pub opens_flight : OpensAnswering P c (over s t) r
    opens_flight found = begun_behind options c s t found (value_or r found) (numbered r) (told found)

    pub opens_too : (options ≡ 1 → ⊥) → OpensPlain P options c (over s t) (numbered r)
    opens_too h = let found = clock 0 zero32 in plain_behind options c s t found (value_or r found) (numbered r) (told found) h

  -- a call
  module _ (w later : SteadyClock) (k next : P.Kept) (y : P.Call) (n : ℕ) (found x : P.Offset) (told : steady_flight (flight n x next) later ≡ step_behind P w k y found) where
    word_by : (t : Bool) → (cond t (steady_flight (flight 10 found k) w) (kept_step P w k y found)).clock.steady ≡ w.steady
    word_by true = refl
    word_by false = refl

    word : later.steady ≡ w.steady
    word = (unfold step_behind in ap (λ (z : SteadyFlight P.Offset P.Kept). z.clock.steady) told ∙ word_by (turns_back (clock_band w) (P.runs k) (P.dt_of y)))

    pub steps_flight : FliesOnBehind P (over w later) (over k next) y (over found x) n
    steps_flight c calls answers f =
        flies_behind c w.steady (calls ++ (y ∷ [])) (P.more answers n x) next later.first_dt_s
        (by_step found y f (ap (λ (u : ℕ). steady_flight (flight n x next) (clock u later.first_dt_s)) (sym word) ∙ told))

    pub steps_too : w.steady ≡ 0 → StepsPlain P (over w.first_dt_s later.first_dt_s) (over k next) y (over found x) n
    steps_too h =
        let s = steps_plain P w later k y found (flight n x next) told h in
        record { stepped = s.0; flown = λ c calls answers f. W.flies c _ _ next (W.steps c calls answers k next n found x y f s.0); tested = s.1 }
